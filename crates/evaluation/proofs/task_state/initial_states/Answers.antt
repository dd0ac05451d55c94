use Rattle.std.proofs.Common.{◌≡◌, ◌++◌, ◌+◌, ◌∷◌, [], ◌<◌, ◌≤◌, ℕ, List, Some, length, map, slice_get, sym, ap, arith, subst, ◌∙◌, ◌⊎◌, ◌≢◌, inl, inr}
use Rattle.std.proofs.lemmas.Bool.{cases_eq}
use Rattle.std.proofs.lemmas.List.{take_all, length-map}
use Rattle.std.proofs.lemmas.Option.{slice_get_within, same_Some}
use Rattle.power_flow.specs.LadderValue.{LadderValue, Fits}
use Rattle.power_flow.specs.StateValue.{StateValue}
use Rattle.task_codes.specs.CodeValue.{ProgramValue}
use Rattle.evaluation.specs.States.{initial_state_of, initial_state}
use Rattle.evaluation.proofs.ScannedPrograms.{program_of, has_program, mapped_more}
use Rattle.evaluation.proofs.InitialStates.{initial_fits}
use Rattle.evaluation.proofs.task_state.initial_states.Goals as goal
use Rattle.evaluation.proofs.task_state.initial_states.Goals.{in-Some+in_ok-initial_of+in_ok-push, in_default}

abbrev first : ProgramValue → StateValue
first p = initial_state_of p.ladder

one_fits : (programs : List ProgramValue) (i : ℕ) (p : ProgramValue) → slice_get programs i ≡ Some p → Fits p.ladder (first p)
    → ((k : ℕ) (q : ProgramValue) → k < i → slice_get programs k ≡ Some q → Fits q.ladder (first q)) → (k : ℕ) (q : ProgramValue) → k < i + 1 → slice_get programs k ≡ Some q → Fits q.ladder (first q)
one_fits programs i p at here below k q lt at' = by (cases_eq k i)
  where
    by : (k ≡ i) ⊎ (k ≢ i) → Fits q.ladder (first q)
    by (inl same) = subst (λ (x : ProgramValue). Fits x.ladder (first x)) (same_Some p q (sym at ∙ ap (slice_get programs) (sym same) ∙ at')) here
    by (inr ne) = below k q (omega arith) at'

pub loop-i-preserved : goal.loop-i-preserved
loop-i-preserved c =
    let code = c.args.code.now in
    let i = c.loop-i.i in
    elim c.match-ladder.branch [
      | in-Some+in_ok-initial_of+in_ok-push w ↦
          (let p = program_of code i w.in-Some.ladder.now w.in-Some.ensures in
          let s = w.in_ok-initial_of.field-0 in
          let value : s ≡ first p.0 = w.in_ok-initial_of.ensures.value ∙ ap initial_state_of (sym p.2) in
          let fits : Fits (p.0).ladder (first p.0) = subst (Fits (p.0).ladder) value (subst (λ (l : LadderValue). Fits l s) (sym p.2) w.in_ok-initial_of.ensures.fits) in
          let q = w.in_ok-push.ensures.items in
          let z = w.states-is in
          let new : c.match-ladder.states.items ≡ c.loop-i.states.items ++ s ∷ [] = cc in
          record {
            value = new ∙ ap (λ x. c.loop-i.states.items ++ x ∷ []) value ∙ mapped_more first code.programs i p.0 c.loop-i.states.items p.1 c.loop-i.invariant.value;
            fits = one_fits code.programs i p.0 p.1 fits c.loop-i.invariant.fits;
          })
      | in_default w ↦ absurd (has_program code i (omega arith) w.in_default.ensures)
    ]

pub returns-clause-value : goal.returns-clause-value
returns-clause-value c =
    let all : length c.args.code.now.programs ≤ c.loop-i.i = omega arith in
    c.loop-i.invariant.value ∙ ap (map first) (take_all c.loop-i.i c.args.code.now.programs all)

pub returns-clause-fits : goal.returns-clause-fits
returns-clause-fits c =
    let code = c.args.code.now in
    let all : length code.programs ≤ c.loop-i.i = omega arith in
    let value : c.loop-i.states.items ≡ initial_state code = c.loop-i.invariant.value ∙ ap (map first) (take_all c.loop-i.i code.programs all) in
    initial_fits code c.loop-i.states.items value
    (λ k p at. c.loop-i.invariant.fits k p (let lt = slice_get_within code.programs k p at in omega arith) at)
    (ap length value ∙ length-map code.programs first)

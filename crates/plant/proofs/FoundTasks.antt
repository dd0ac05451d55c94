-- Where a task of a name stands.
use Rattle.std.proofs.Common.{◌≡◌, ℕ, ◌+◌, ◌<◌, inl, inr, true, false, List, Option, Some, None, Contains, length, get_or, refl, sym, ap, ◌∙◌, subst, arith}
use Rattle.std.specs.Borrow.{Bor}
use Rattle.std.specs.Prelude.{MatchOption}
use Rattle.std.specs.List.{before_first, after_first, position_or_len}
use Rattle.std.proofs.lemmas.Bool.{cases_lt, eqb-true}
use Rattle.std.proofs.lemmas.List.Sums.{passes_at_first, fails_before_first}
use Rattle.declared_names.specs.Names.{is_dot}
use Rattle.task_codes.specs.declared.task_ref.TaskRef.{TaskRef}
use Rattle.std.proofs.lemmas.Option.{get_or_from_slice_get}
use Rattle.plant_grammar.specs.Names.{IsAt}
use Rattle.plant.specs.PlantValue.{PlantValue}
use Rattle.task_codes.specs.CodeValue.{CodeValue, ProgramValue}
use Rattle.plant.specs.Steps.Drafts.{IsInstanceAt}
use Rattle.plant.specs.Find.{ArePartsOf, IsTaskAt, IsTaskNamed}

-- no task of the resources so far, and none of the next
pub tasks_more : (P : TaskRef → Type 0) (n : ℕ) → ((k : ℕ) → P (record { resource = n; task = k }) → ⊥) → ((t : TaskRef) → t.resource < n → P t → ⊥) → (t : TaskRef) → t.resource < n + 1 → P t → ⊥
tasks_more P n here before t lt p =
    elim (cases_lt t.resource n) [
      | inl less ↦ before t less p
      | inr more ↦
          let same : t.resource ≡ n = omega arith in
          here t.task (subst (λ (r : ℕ). P (record { resource = r; task = t.task })) same p)
    ]

-- no task so far runs an instance of the name, nor does the next
pub instances_more : (codes : List CodeValue) (name : List ℕ) (n : ℕ) (code : CodeValue) → code ≡ get_or codes n code
    → ((j : ℕ) (p : ProgramValue) → IsAt (λ (p : ProgramValue). p.name) code.programs name j p → ⊥)
    → ((k j : ℕ) → k < n → IsInstanceAt codes name k j → ⊥) → (k j : ℕ) → k < n + 1 → IsInstanceAt codes name k j → ⊥
instances_more codes name n code is here before k j lt at =
    elim (cases_lt k n) [
      | inl less ↦ before k j less at
      | inr more ↦
          let same : k ≡ n = omega arith in
          let one : get_or codes k code ≡ at.code = get_or_from_slice_get codes k at.code code at.code_is in
          let two : code ≡ at.code = is ∙ ap (λ (i : ℕ). get_or codes i code) (sym same) ∙ one in
          here j at.program (subst (λ (c : CodeValue). IsAt (λ (p : ProgramValue). p.name) c.programs name j at.program) (sym two) at.program_is)
    ]

-- the parts at the first dot
pub parts_are : (name : List ℕ) (r : Option (Bor (List ℕ) × Bor (List ℕ)))
    → MatchOption r (position_or_len is_dot name ≡ length name) (λ x. (position_or_len is_dot name < length name) × (x.0.now ≡ before_first is_dot name) × (x.1.now ≡ after_first is_dot name))
    → MatchOption r (Contains name 46 → ⊥) (λ x. ArePartsOf name x.0.now x.1.now)
parts_are name None e = λ has.
    let fails : is_dot (get_or name has.0 46) ≡ false = fails_before_first is_dot name has.0 46 (omega (arith, has.1)) in
    let yes : is_dot (get_or name has.0 46) ≡ true = rw has.2 refl in
    cc
parts_are name (Some x) e =
    let at : get_or name (position_or_len is_dot name) 46 ≡ 46 = eqb-true (get_or name (position_or_len is_dot name) 46) 46 (passes_at_first is_dot name 46 e.0) in
    record { dotted = (position_or_len is_dot name, e.0, at); before = e.1; behind = e.2 }

-- the task of the parts is the task of the name
pub found_named : (plant : PlantValue) (name first second : List ℕ) (r : Option TaskRef) → ArePartsOf name first second
    → MatchOption r ((t : TaskRef) → IsTaskAt plant first second t → ⊥) (λ t. IsTaskAt plant first second t) → MatchOption r ((t : TaskRef) → IsTaskNamed plant name t → ⊥) (λ t. IsTaskNamed plant name t)
found_named plant name first second None parts e = λ t is.
    let one : is.resource ≡ first = is.parts.before ∙ sym parts.before in
    let two : is.task ≡ second = is.parts.behind ∙ sym parts.behind in
    e t (subst (λ (n : List ℕ). IsTaskAt plant first n t) two (subst (λ (n : List ℕ). IsTaskAt plant n is.task t) one is.task_is))
found_named plant name first second (Some t) parts e = record { resource = first; task = second; parts = parts; task_is = e }

use Rattle.std.proofs.Common.{◌≡◌, ◌+◌, List, ◌∷◌, drop, refl, sym, ap, ◌∙◌, subst}
use Rattle.std.proofs.lemmas.List.{drop_more, drop_all}
use Rattle.scan_steps.specs.declared.step.Step.{Step}
use Rattle.scan_steps.specs.Steps.Passing.{ArePassed}
use Rattle.gate_words.specs.Values.{time_at}
use Rattle.scan_gates.specs.Encoded.{slots_at, pass_at}
use Rattle.scan_gates.proofs.stepping.pass_signals.Goals as goal

pub loop-step-preserved : goal.loop-step-preserved
loop-step-preserved c =
    let steps = c.args.steps.now in
    let i = c.loop-step.step-index in
    let step = c.step-item.result in
    let whole : drop i steps ≡ step ∷ drop (i + 1) steps = drop_more steps i step c.loop-step-test.true ∙ ap (λ s. s ∷ drop (i + 1) steps) (sym c.step-item.is) in
    record {
      rows = c.obey.auto.rows ∙ c.loop-step.invariant.rows;
      memories = c.obey.auto.memories ∙ c.loop-step.invariant.memories;
      links = c.obey.auto.links ∙ c.loop-step.invariant.links;
      results = c.obey.auto.results ∙ c.loop-step.invariant.results;
      passed = λ v agrees.
          let obeyed = c.in_ok-obey.ensures v agrees in
          let was = c.loop-step.invariant.passed v obeyed.0 in
          let a = pass_at v c.loop-step.rows c.loop-step.memories c.loop-step.links c.loop-step.results in
          let b = pass_at v c.obey.new.rows c.obey.new.memories c.obey.new.links c.obey.new.results in (
            was.0,
            λ final rest.
                let Passed : List Step → Type 0 = λ l. ArePassed c.args.boxes.now (slots_at v c.args.slots.now) (time_at v c.args.dt.now) l a final in
                was.1 final (subst Passed (sym whole) (b, obeyed.1, rest)),
          );
    }

pub returns : goal.returns
returns c = λ v agrees.
    let was = c.loop-step.invariant.passed v agrees in
    let b = pass_at v c.loop-step.rows c.loop-step.memories c.loop-step.links c.loop-step.results in (
      was.0,
      let Passed : List Step → Type 0 = λ steps. ArePassed c.args.boxes.now (slots_at v c.args.slots.now) (time_at v c.args.dt.now) steps b b in
          was.1 b (subst Passed (sym (drop_all c.loop-step.step-index c.args.steps.now c.loop-step-test.false)) refl),
    )

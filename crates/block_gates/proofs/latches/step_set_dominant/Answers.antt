use Rattle.std.proofs.Common.{◌&&◌, ◌||◌, ap, ◌∙◌}
use Rattle.gates.specs.Signals.{signal_value}
use Rattle.block_gates.proofs.latches.step_set_dominant.Goals as goal

pub returns : goal.returns
returns c = λ v agrees.
    let on = c.in_ok-on.ensures v agrees in
    let kept = c.in_ok-kept.ensures v on.0 in (
      kept.0,
      on.1
          ∙ ap (λ b. signal_value v c.args.pins.now.first || b) (kept.1 ∙ ap (λ b. b && signal_value v c.args.q1) (c.negated-stays.ensures v)),
    )

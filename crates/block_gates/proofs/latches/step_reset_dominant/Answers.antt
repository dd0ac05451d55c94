use Rattle.std.proofs.Common.{◌&&◌, not, ap, ◌∙◌}
use Rattle.gates.specs.Signals.{signal_value}
use Rattle.block_gates.proofs.latches.step_reset_dominant.Goals as goal

pub returns : goal.returns
returns c = λ v agrees.
    let on = c.in_ok-on.ensures v agrees in
    let set = c.in_ok-set.ensures v on.0 in (
      set.0,
      on.1 ∙ ap (λ b. b && signal_value v c.in_ok-set.set) (c.negated-stays.ensures v)
          ∙ ap (λ b. not (signal_value v c.args.pins.now.second) && b) set.1,
    )

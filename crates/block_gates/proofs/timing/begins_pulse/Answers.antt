use Rattle.std.proofs.Common.{◌&&◌, not, ap, ◌∙◌}
use Rattle.gates.specs.Signals.{signal_value}
use Rattle.block_gates.proofs.timing.begins_pulse.Goals as goal

pub returns : goal.returns
returns c = λ v agrees.
    let begins = c.in_ok-begins.ensures v agrees in
    let risen = c.in_ok-risen.ensures v begins.0 in (
      risen.0,
      begins.1 ∙ ap (λ t. t && signal_value v c.in_ok-risen.risen) (c.negated-off.ensures v)
          ∙ ap (λ t. not (signal_value v c.args.timer.now.on) && t) risen.1,
    )

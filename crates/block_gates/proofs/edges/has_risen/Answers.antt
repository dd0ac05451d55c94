use Rattle.std.proofs.Common.{◌&&◌, ap, ◌∙◌}
use Rattle.gates.specs.Signals.{signal_value}
use Rattle.block_gates.proofs.edges.has_risen.Goals as goal

pub returns : goal.returns
returns c = λ v agrees.
    let risen = c.in_ok-risen.ensures v agrees in
    (risen.0, risen.1 ∙ ap (λ b. signal_value v c.args.input && b) (c.negated-was_off.ensures v))

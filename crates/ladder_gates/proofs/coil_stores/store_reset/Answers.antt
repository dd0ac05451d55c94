use Rattle.std.proofs.Common.{◌&&◌, ap, ◌∙◌}
use Rattle.gates.specs.Signals.{signal_value}
use Rattle.scan_gates.specs.Encoded.{slots_at}
use Rattle.ladder_gates.proofs.Storing.{reset_stored}
use Rattle.ladder_gates.proofs.coil_stores.store_reset.Goals as goal

pub returns : goal.returns
returns c = λ v agrees.
    let and = c.in_ok-on.ensures v agrees in
    let had = signal_value v c.variable_on-had.result in (
      and.0,
      c.put_value.ensures v ∙ reset_stored (slots_at v c.args.slots.now) c.args.place had (signal_value v c.args.link) (signal_value v c.in_ok-on.on)
          (c.variable_on-had.ensures v and.0) (and.1 ∙ ap (λ b. had && b) (c.negated.ensures v)),
    )

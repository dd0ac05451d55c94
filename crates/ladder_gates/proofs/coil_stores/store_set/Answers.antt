use Rattle.std.proofs.Common.{◌∙◌}
use Rattle.gates.specs.Signals.{signal_value}
use Rattle.scan_gates.specs.Encoded.{slots_at}
use Rattle.ladder_gates.proofs.Storing.{set_stored}
use Rattle.ladder_gates.proofs.coil_stores.store_set.Goals as goal

pub returns : goal.returns
returns c = λ v agrees.
    let or = c.in_ok-on.ensures v agrees in (
      or.0,
      c.put_value.ensures v ∙ set_stored (slots_at v c.args.slots.now) c.args.place (signal_value v c.variable_on-had.result) (signal_value v c.args.link) (signal_value v c.in_ok-on.on)
          (c.variable_on-had.ensures v or.0) or.1,
    )

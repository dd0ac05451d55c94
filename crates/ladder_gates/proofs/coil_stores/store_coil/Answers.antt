use Rattle.std.proofs.Common.{sym, ap, ◌∙◌}
use Rattle.gates.specs.Signals.{signal_value}
use Rattle.scan_gates.specs.Encoded.{bits_at, slots_at}
use Rattle.power_flow.specs.Meaning.{coil_memory}
use Rattle.ladder_gates.proofs.Bits.{bit_there, bits_set}
use Rattle.ladder_gates.proofs.Storing.{stored_by}
use Rattle.ladder_gates.proofs.coil_stores.store_coil.Goals as goal

pub returns : goal.returns
returns c = λ v agrees.
    let stored = c.in_ok-store_placed.ensures v agrees in
    let coil = c.args.coil.now in
    let memories = c.args.memories.now in
    let link = signal_value v c.args.link in (
      stored.0,
      (
        stored_by (slots_at v c.args.slots.now) (slots_at v c.store_placed.new.slots) coil link _ (bits_at v memories) (bit_there v memories coil.memory _ c.requires) stored.1,
        bits_set v memories coil.memory c.next_memory.result _ (c.next_memory.ensures v ∙ ap (coil_memory coil.kind link) (sym (bit_there v memories coil.memory _ c.requires))),
      ),
    )

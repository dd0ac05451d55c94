use Rattle.std.proofs.Common.{◌∙◌}
use Rattle.gate_words.specs.Values.{time_at}
use Rattle.scan_gates.specs.Encoded.{bits_at, slots_at}
use Rattle.ladder_gates.proofs.Bits.{bits_long}
use Rattle.ladder_gates.proofs.Networks.{network_meant}
use Rattle.ladder_gates.proofs.Results.{on_ok}
use Rattle.ladder_gates.proofs.circuits_encoded.encode_circuit.Goals as goal

pub encode_steps-requires-clause-steps : goal.encode_steps-requires-clause-steps
encode_steps-requires-clause-steps c = rw (c.deref.ensures.value, c.deref-2.ensures.value, c.deref-3.ensures.value, c.requires.memories) c.requires.shape.steps_in

pub returns : goal.returns
returns c = on_ok _ _ c.encode_steps.result c.encode_steps.ensures (λ built v agrees.
    let scanned = rw (c.deref.ensures.value, c.deref-2.ensures.value, c.deref-3.ensures.value) at built v agrees in (
      scanned.0,
      λ ds d is fits.
          network_meant c.steps_are_meant.ensures ds d c.args.circuit.now (time_at v c.args.dt.now) (slots_at v c.args.slots.now) (slots_at v c.encode_steps.new.slots) (bits_at v c.args.memories.now)
          (bits_at v c.encode_steps.new.memories) is fits (bits_long v c.args.memories.now ∙ c.requires.memories) scanned.1,
    ))

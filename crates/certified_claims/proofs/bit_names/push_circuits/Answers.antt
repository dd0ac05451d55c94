use Rattle.std.specs.List.{flat_map}
use Rattle.power_flow.specs.declared.steps.circuit.Circuit.{Circuit}
use Rattle.certified_claims.specs.BitNames.{memory_bits}
use Rattle.certified_claims.proofs.Naming.{flat_more}
use Rattle.certified_claims.proofs.bit_names.push_circuits.Goals as goal

pub loop-circuit-preserved : goal.loop-circuit-preserved
loop-circuit-preserved c =
    flat_more (λ (d : Circuit). flat_map memory_bits d.elements.items) c.args.circuits.now _ _ _ c.loop-circuit.circuit-index _ c.loop-circuit-test.true c.loop-circuit.invariant
    (rw (c.deref.ensures.value, c.circuit-item.is) at c.in_ok-push_memories.ensures)

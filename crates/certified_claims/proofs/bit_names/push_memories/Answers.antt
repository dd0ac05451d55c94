use Rattle.certified_claims.specs.BitNames.{memory_bits}
use Rattle.certified_claims.proofs.Naming.{flat_more}
use Rattle.certified_claims.proofs.bit_names.push_memories.Goals as goal

pub loop-element-preserved : goal.loop-element-preserved
loop-element-preserved c =
    flat_more memory_bits c.args.elements.now _ _ _ c.loop-element.element-index _ c.loop-element-test.true c.loop-element.invariant (rw c.element-item.is at c.in_ok-push_memory.ensures)

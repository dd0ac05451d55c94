use Rattle.ladder_systems.proofs.Pushing.{marked_next}
use Rattle.ladder_systems.proofs.state_bits.push_marked.Goals as goal

pub loop-k-preserved : goal.loop-k-preserved
loop-k-preserved c =
    marked_next c.args.marks.now c.args.signals.now c.args.bits.now.items c.loop-k.bits.items _ c.loop-k.k _ _ c.loop-k-test.true c.requires c.loop-k.invariant c.in_ok-push_if.ensures

use Rattle.std.proofs.lemmas.List.{take_all}
use Rattle.ladder_systems.proofs.Pushing.{like_pushed, made_more}
use Rattle.ladder_systems.proofs.state_bits.with_bits.Goals as goal

pub loop-slot-preserved : goal.loop-slot-preserved
loop-slot-preserved c = record {
  built = λ v agrees. c.loop-slot.invariant.built v (c.in_ok-next.ensures.built v agrees).0;
  like = like_pushed c.args.slots.now c.loop-slot.made.items _ c.loop-slot.slot-index _ c.in_ok-next.next c.loop-slot-test.true c.loop-slot.invariant.like (rw c.slot-item.is at c.in_ok-next.ensures.like)
      c.in_ok-push_slot.ensures;
  bits = made_more c.args.bits.now.items c.loop-slot.bits.items _ c.loop-slot.made.items _ c.in_ok-next.next c.loop-slot.invariant.bits c.in_ok-next.ensures.signals c.in_ok-push_slot.ensures;
}

pub returns-clause-built : goal.returns-clause-built
returns-clause-built c = λ v agrees. (c.loop-slot.invariant.built v agrees, tt)

pub returns-clause-like : goal.returns-clause-like
returns-clause-like c = rw (take_all c.loop-slot.slot-index c.args.slots.now c.loop-slot-test.false) at c.loop-slot.invariant.like

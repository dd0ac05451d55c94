use Rattle.std.proofs.Common.{refl, arith}
use Rattle.traces.proofs.Stretches.{stretch_last, stretch_more}
use Rattle.traces.proofs.segments.push_segments.Goals as goal

pub loop-next-preserved : goal.loop-next-preserved
loop-next-preserved c = record {
  made = stretch_more _ _ _ _ _ _ _ _ _ _ _ _ c.loop-next-test.true refl c.loop-next.invariant.made c.in_ok-push_ended.ensures c.start-from.ensures c.in_ok-to.ensures;
  to = omega (arith, c.loop-next.invariant.to, c.in_ok-to.ensures);
}

pub returns : goal.returns
returns c = stretch_last _ _ _ _ _ _ _ _ c.loop-next-test.false c.loop-next.invariant.made c.in_ok-push.ensures.items

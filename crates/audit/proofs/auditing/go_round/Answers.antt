use Rattle.std.proofs.Common.{refl, sym, subst, rules}
use Rattle.std.proofs.lemmas.Option.{none-some}
use Rattle.audit.specs.Steps.Settled.{AreSettled}
use Rattle.audit.proofs.GoingOn.{round_begins, next_stands, next_left, round_turns, settled_more, not_both, lines_begin, lines_turn}
use Rattle.audit.proofs.auditing.go_round.Goals as goal

pub loop-follower-init : goal.loop-follower-init
loop-follower-init c = record {
  stand = round_begins c.args.book.now c.in_ok-gone.gone.items c.into_iter-follower-iterator.result.rest.items c.args.followers.items c.in_ok-gone.ensures.items c.into_iter-follower-iterator.ensures.into_iter_gives.0 c.requires;
  settled = λ _. (refl, subst (AreSettled c.args.book.now) (sym c.in_ok-gone.ensures.items) (λ k f at. absurd (none-some f at)));
  lines = lines_begin c.in_ok-gone.gone.items c.into_iter-follower-iterator.result.rest.items c.args.followers.items c.in_ok-gone.ensures.items c.into_iter-follower-iterator.ensures.into_iter_gives.0;
}

pub follow-requires-clause-stands : goal.follow-requires-clause-stands
follow-requires-clause-stands c = next_stands c.loop-follower.book _ _ _ c.in-Some.follower c.in-Some.ensures.steps.0 c.loop-follower.invariant.stand.2

pub follow-requires-clause-left : goal.follow-requires-clause-left
follow-requires-clause-left c = next_left c.loop-follower.book _ _ _ c.in-Some.follower c.in-Some.ensures.steps.0 c.loop-follower.invariant.stand.2

pub loop-follower-preserved-then-any : goal.loop-follower-preserved-then-any
loop-follower-preserved-then-any c = record {
  stand = round_turns c.args.book.now c.loop-follower.book c.follow.new.book _ _ _ _ c.in-Some.follower c.in_ok-next.next _ c.in_ok-next.went c.in-Some.ensures.steps.0 c.in_ok-push.ensures.items c.loop-follower.invariant.stand c.in_ok-next.ensures.goes c.in_ok-next.ensures.follows;
  settled = λ isnt. absurd (not_both isnt (search rules));
  lines = lines_turn _ _ _ _ _ c.in-Some.follower c.in_ok-next.next c.in-Some.ensures.steps.0 c.in_ok-push.ensures.items c.in_ok-next.ensures.lines c.loop-follower.invariant.lines;
}

pub loop-follower-preserved : goal.loop-follower-preserved
loop-follower-preserved c = record {
  stand = round_turns c.args.book.now c.loop-follower.book c.follow.new.book _ _ _ _ c.in-Some.follower c.in_ok-next.next _ c.in_ok-next.went c.in-Some.ensures.steps.0 c.in_ok-push.ensures.items c.loop-follower.invariant.stand c.in_ok-next.ensures.goes c.in_ok-next.ensures.follows;
  settled = λ isnt. settled_more c.args.book.now c.loop-follower.book c.follow.new.book _ _ _ _ _ c.in-Some.follower c.in_ok-next.next c.in_ok-next.went c.in-Some.ensures.steps.0 c.in_ok-push.ensures.items c.loop-follower.invariant.stand.2 c.in_ok-next.ensures.follows isnt (c.in_ok-next.ensures.rests isnt) (c.loop-follower.invariant.settled c.if-any.false);
  lines = lines_turn _ _ _ _ _ c.in-Some.follower c.in_ok-next.next c.in-Some.ensures.steps.0 c.in_ok-push.ensures.items c.in_ok-next.ensures.lines c.loop-follower.invariant.lines;
}

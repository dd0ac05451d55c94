use Rattle.std.proofs.Common.{◌∙◌, sym}
use Rattle.audit.proofs.GoingOn.{journals_begin, journals_turn, journals_first, journals_next, journals_last}
use Rattle.audit.proofs.auditing.journals_of.Goals as goal

pub loop-follower-init : goal.loop-follower-init
loop-follower-init c = record {
  stand = journals_begin c.in_ok-journals.journals.items c.into_iter-follower-iterator.result.rest.items c.args.followers.items c.in_ok-journals.ensures.items c.into_iter-follower-iterator.ensures.into_iter_gives.0;
  same = journals_first c.in_ok-journals.journals.items c.into_iter-follower-iterator.result.rest.items c.args.followers.items c.in_ok-journals.ensures.items c.into_iter-follower-iterator.ensures.into_iter_gives.0;
}

pub loop-follower-preserved : goal.loop-follower-preserved
loop-follower-preserved c = record {
  stand = journals_turn _ _ _ _ _ c.in-Some.follower c.into_journal.result c.in-Some.ensures.steps.0 c.in_ok-push.ensures.items c.into_journal.ensures.same c.into_journal.ensures.lawful c.loop-follower.invariant.stand;
  same = journals_next _ _ _ _ _ c.in-Some.follower c.into_journal.result c.in-Some.ensures.steps.0 c.in_ok-push.ensures.items c.into_journal.ensures.same c.loop-follower.invariant.same;
}

pub returns-clause-journals : goal.returns-clause-journals
returns-clause-journals c = λ b are. (c.loop-follower.invariant.stand.1 b are).0

pub returns-clause-same : goal.returns-clause-same
returns-clause-same c =
    journals_last c.loop-follower.journals.items c.loop-follower.follower-iterator.rest.items c.args.followers.items
    (sym c.loop-follower.follower-iterator.rest.ok.0 ∙ c.in-None.ensures.steps.0) c.loop-follower.invariant.same

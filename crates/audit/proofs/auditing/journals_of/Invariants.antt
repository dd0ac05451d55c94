-- The journals of the resources that were taken, and the others behind them.
use Rattle.std.proofs.Common.{◌≡◌, ◌+◌, ◌++◌, length}
use Rattle.audit.specs.Steps.Standings.{AuditedBook, AreFrom, AreJournalsFrom}
use Rattle.audit.proofs.GoingOn.{journals_in}
use Rattle.audit.proofs.auditing.journals_of.Given as goal

abbrev pub invariant-loop-follower : goal.invariant-loop-follower
invariant-loop-follower l = record {
  stand : (length l.journals.items + length l.follower-iterator.rest.items ≡ length l.fn.followers.items)
      × ((b : AuditedBook) → AreFrom b 0 l.fn.followers.items
      → AreJournalsFrom b 0 l.journals.items × AreFrom b (length l.journals.items) l.follower-iterator.rest.items);
  same : l.journals.items ++ journals_in l.follower-iterator.rest.items ≡ journals_in l.fn.followers.items;
}

-- The resources that had their turn stand at the first places, and the others behind them. Those are settled if none did a line.
use Rattle.std.proofs.Common.{◌≡◌, ◌+◌, ◌++◌, false, length}
use Rattle.audit.specs.Steps.Standings.{AreFrom, IsOfSame}
use Rattle.audit.specs.Steps.Settled.{AreSettled}
use Rattle.audit.proofs.GoingOn.{lines_of}
use Rattle.audit.proofs.auditing.go_round.Given as goal

abbrev pub invariant-loop-follower : goal.invariant-loop-follower
invariant-loop-follower l = record {
  stand : (length l.gone.items + length l.follower-iterator.rest.items ≡ length l.fn.followers.items)
      × AreFrom l.book 0 l.gone.items
      × AreFrom l.book (length l.gone.items) l.follower-iterator.rest.items
      × IsOfSame l.fn.book l.book;
  settled : l.any ≡ false → (l.book ≡ l.fn.book) × AreSettled l.book l.gone.items;
  lines : lines_of l.gone.items ++ lines_of l.follower-iterator.rest.items ≡ lines_of l.fn.followers.items;
}

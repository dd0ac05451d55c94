-- The resources stand after each round.
use Rattle.std.proofs.Common.{◌≡◌, length}
use Rattle.audit.specs.Steps.Standings.{AreFrom, IsOfSame}
use Rattle.audit.proofs.GoingOn.{lines_of}
use Rattle.audit.proofs.auditing.go_on.Given as goal

abbrev pub invariant-loop-round : goal.invariant-loop-round
invariant-loop-round l = record {
  many : length l.followers.items ≡ length l.fn.followers.items;
  stand : AreFrom l.book 0 l.followers.items;
  same : IsOfSame l.fn.book l.book;
  lines : lines_of l.followers.items ≡ lines_of l.fn.followers.items;
}

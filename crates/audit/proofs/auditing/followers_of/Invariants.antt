-- There is a resource before its first line for each list of lines that was taken.
use Rattle.std.proofs.Common.{◌≡◌, ◌+◌, ◌++◌, length}
use Rattle.audit.specs.Steps.Standings.{empty_book, AreFrom}
use Rattle.audit.proofs.GoingOn.{lines_of}
use Rattle.audit.proofs.auditing.followers_of.Given as goal

abbrev pub invariant-loop-lines : goal.invariant-loop-lines
invariant-loop-lines l = record {
  stand : (length l.followers.items + length l.lines-iterator.rest.items ≡ length l.fn.resources.items)
      × AreFrom (empty_book l.plant.value) 0 l.followers.items;
  lines : lines_of l.followers.items ++ l.lines-iterator.rest.items ≡ l.fn.resources.items;
}

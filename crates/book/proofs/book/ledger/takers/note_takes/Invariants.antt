-- The rows so far were noted.
use Rattle.std.proofs.Common.{◌≡◌, ◌++◌, map, take, drop}
use Rattle.book.specs.Steps.Ledger.{noted}
use Rattle.book.proofs.book.ledger.takers.note_takes.Given as goal

abbrev pub invariant-loop-row : goal.invariant-loop-row
invariant-loop-row l = l.rows ≡ map (noted l.resource l.takes l.index) (take l.row-index l.fn.rows) ++ drop l.row-index l.fn.rows

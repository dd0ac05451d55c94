use Rattle.std.proofs.Common.{ℕ, ◌<◌, IsFalse}
use Rattle.ladder_text.specs.Places.{layout_of}
use Rattle.ladder_text.specs.Faults.{has_fault}
use Rattle.ladder_text.proofs.places.marked_grid.MarkedGrid.fault_in_row.Given as goal

abbrev pub invariant-loop-column : goal.invariant-loop-column
invariant-loop-column l = (k : ℕ) → k < l.column → IsFalse (has_fault l.fault (layout_of l.self) l.row k)

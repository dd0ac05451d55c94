use Rattle.std.proofs.Common.{ℕ, ◌<◌, ◌≤◌, IsFalse}
use Rattle.ladder_rows.specs.Rows.{width}
use Rattle.ladder_text.specs.Places.{layout_of}
use Rattle.ladder_text.specs.Faults.{has_fault}
use Rattle.ladder_text.proofs.places.marked_grid.MarkedGrid.first_fault.Given as goal

abbrev pub invariant-loop-row : goal.invariant-loop-row
invariant-loop-row l = (r c : ℕ) → r < l.row → c ≤ width l.self → IsFalse (has_fault l.fault (layout_of l.self) r c)

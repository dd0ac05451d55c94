use Rattle.std.proofs.Common.{ℕ, ◌<◌, ◌≤◌, IsFalse}
use Rattle.ladder_text.specs.declared.places.place_fault.PlaceFault.{PlaceFault}
use Rattle.ladder_rows.specs.Rows.{width}
use Rattle.ladder_text.specs.Places.{layout_of}
use Rattle.ladder_text.specs.Faults.{has_fault}
use Rattle.ladder_text.proofs.places.marked_grid.MarkedGrid.is_fine_everywhere.Given as goal

abbrev pub invariant-loop-row : goal.invariant-loop-row
invariant-loop-row l = (f : PlaceFault) (r c : ℕ) → r < l.row → c ≤ width l.self → IsFalse (has_fault f (layout_of l.self) r c)

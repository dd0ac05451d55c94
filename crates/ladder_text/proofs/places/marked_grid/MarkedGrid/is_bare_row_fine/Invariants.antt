use Rattle.std.proofs.Common.{ℕ, ◌≡◌, ◌<◌, ◌-◌, IsFalse}
use Rattle.ladder_text.specs.declared.places.place_fault.PlaceFault.{PlaceFault}
use Rattle.ladder_text.specs.Places.{layout_of, mark}
use Rattle.ladder_text.specs.Faults.{has_fault}
use Rattle.ladder_text.proofs.places.marked_grid.MarkedGrid.is_bare_row_fine.Given as goal

abbrev pub invariant-loop-column : goal.invariant-loop-column
invariant-loop-column l = record {
  fine : (f : PlaceFault) (k : ℕ) → k < l.column → IsFalse (has_fault f (layout_of l.self) l.row k);
  before : l.before ≡ mark (layout_of l.self) l.row (l.column - 1);
}

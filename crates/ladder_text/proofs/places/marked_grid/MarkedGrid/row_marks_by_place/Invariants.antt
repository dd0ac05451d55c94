use Rattle.std.proofs.Common.{◌≡◌, ◌∷◌, []}
use Rattle.ladder_rows.specs.Rows.{upto}
use Rattle.ladder_text.specs.Places.{layout_of, mark}
use Rattle.drawings.specs.declared.mark.Mark.TheVariants.{Blank}
use Rattle.ladder_text.proofs.places.marked_grid.MarkedGrid.row_marks_by_place.Given as goal

abbrev pub invariant-loop-column : goal.invariant-loop-column
invariant-loop-column l = l.marks ≡ Blank ∷ upto l.column (λ c. mark (layout_of l.self) l.row c ∷ [])

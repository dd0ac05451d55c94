use Rattle.std.proofs.Common.{◌≡◌, ◌∷◌, []}
use Rattle.ladder_rows.specs.Rows.{upto}
use Rattle.ladder_text.specs.Places.{layout_of}
use Rattle.ladder_text.specs.Picture.{row_marks}
use Rattle.ladder_text.proofs.places.marked_grid.MarkedGrid.find_marks.Given as goal

abbrev pub invariant-loop-row : goal.invariant-loop-row
invariant-loop-row l = l.all.items ≡ upto l.row (λ r. row_marks (layout_of l.self) r ∷ [])

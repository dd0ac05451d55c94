use Rattle.std.proofs.Common.{ap, sym, ◌∙◌, inr}
use Rattle.ladder_rows.specs.Rows.{Rows}
use Rattle.ladder_text.specs.Places.{layout_of}
use Rattle.ladder_text.specs.Picture.{marks_of}
use Rattle.ladder_text.proofs.places.marked_grid.MarkedGrid.with_row_marks.Goals as goal

pub invariant_of-result : goal.invariant_of-result
invariant_of-result c = (c.self.invariant.0, c.self.invariant.1, inr (c.in_ok-found.ensures ∙ ap (λ (d : Rows). marks_of (layout_of d)) (sym c.self.view_is)))

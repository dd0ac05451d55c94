use Rattle.std.proofs.Common.{ap, sym, ◌∙◌}
use Rattle.ladder_rows.specs.Rows.{Rows}
use Rattle.ladder_text.specs.Places.{layout_of, has_right_rail}
use Rattle.ladder_text.proofs.places.marked_grid.MarkedGrid.with_rail.Goals as goal

pub invariant_of-result : goal.invariant_of-result
invariant_of-result c = (c.self.invariant.0, c.has_right_rail-found.ensures ∙ ap (λ (d : Rows). has_right_rail (layout_of d)) (sym c.self.view_is), c.self.invariant.2)

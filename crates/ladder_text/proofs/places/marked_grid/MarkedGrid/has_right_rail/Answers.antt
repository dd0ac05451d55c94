use Rattle.std.proofs.Common.{ap, subst, ◌∙◌}
use Rattle.ladder_rows.specs.Rows.{Rows}
use Rattle.ladder_text.specs.Places.{layout_of, has_right_rail}
use Rattle.ladder_text.specs.Steps.RowMarks.{IsRailIfFound}
use Rattle.ladder_text.proofs.places.marked_grid.MarkedGrid.has_right_rail.Goals as goal

pub returns-in-Some : goal.returns-in-Some
returns-in-Some c = subst (IsRailIfFound c.self.inside.grid) c.in-Some.is c.self.invariant.1 ∙ ap (λ (d : Rows). has_right_rail (layout_of d)) c.self.view_is

use Rattle.std.proofs.Common.{ap, ◌∙◌, rules, tests, inl, inr}
use Rattle.ladder_rows.specs.Rows.{Rows}
use Rattle.ladder_text.specs.Places.{layout_of}
use Rattle.ladder_text.specs.Picture.{marks_of}
use Rattle.ladder_text.proofs.places.marked_grid.MarkedGrid.into_marks.Goals as goal

pub returns : goal.returns
returns c = elim c.self.invariant.2 [
  | inl e ↦ absurd (search (rules, tests))
  | inr e ↦ e ∙ ap (λ (d : Rows). marks_of (layout_of d)) c.self.view_is
]

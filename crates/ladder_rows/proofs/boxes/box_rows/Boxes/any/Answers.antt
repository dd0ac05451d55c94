use Rattle.std.proofs.Common.{◌∙◌, List, ap}
use Rattle.std.specs.List.{list_any}
use Rattle.ladder_rows.specs.declared.boxes.outline.Outline.{Outline}
use Rattle.ladder_rows.specs.Steps.RowBoxes.{box_test, holds_at}
use Rattle.ladder_rows.proofs.Outlines.RowBoxes.{any_test}
use Rattle.ladder_rows.proofs.boxes.box_rows.Boxes.any.Goals as goal

pub returns : goal.returns
returns c =
    let a = c.args in
    c.any_test.ensures
    ∙ ap (λ (bs : List Outline). list_any (holds_at bs (box_test a.test a.row a.column)) c.on_row.result.now) (c.deref.ensures.value ∙ c.self.view_is)
    ∙ ap (list_any (holds_at a.self.now (box_test a.test a.row a.column))) c.on_row.ensures
    ∙ any_test a.self.now a.test a.row a.column

use Rattle.std.proofs.Common.{◌∙◌, List, length, ap, subst}
use Rattle.std.specs.List.{list_any}
use Rattle.ladder_rows.specs.declared.boxes.outline.Outline.{Outline}
use Rattle.ladder_rows.specs.Steps.RowBoxes.{AreInRows, word_test, holds_at}
use Rattle.ladder_rows.proofs.Outlines.RowBoxes.{any_word}
use Rattle.ladder_rows.proofs.boxes.box_rows.Boxes.any_takes_word.Goals as goal

pub returns : goal.returns
returns c =
    let a = c.args in
    let n = length c.self.inside.by_row.items in
    c.any_takes_word.ensures
    ∙ ap (λ (bs : List Outline). list_any (holds_at bs (word_test a.side a.row a.column)) c.on_row.result.now) (c.deref.ensures.value ∙ c.self.view_is)
    ∙ ap (list_any (holds_at a.self.now (word_test a.side a.row a.column))) c.on_row.ensures
    ∙ any_word n a.self.now (subst (AreInRows n) c.self.view_is c.self.invariant.0) a.side a.row a.column

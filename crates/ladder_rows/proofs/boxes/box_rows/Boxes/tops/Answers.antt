use Rattle.std.proofs.Common.{◌≡◌, ◌∙◌, List, length, ap, subst}
use Rattle.std.specs.List.{filter_map}
use Rattle.std.specs.Prelude.{IfOk}
use Rattle.ladder_rows.specs.declared.boxes.outline.Outline.{Outline}
use Rattle.ladder_rows.specs.declared.span.Span.{Span}
use Rattle.ladder_rows.specs.Steps.RowBoxes.{AreInRows, top_at}
use Rattle.ladder_rows.proofs.Outlines.RowBoxes.{tops_on}
use Rattle.ladder_rows.proofs.boxes.box_rows.Boxes.tops.Goals as goal

pub returns : goal.returns
returns c =
    let a = c.args in
    let n = length c.self.inside.by_row.items in
    let is =
    ap (λ (bs : List Outline). filter_map (top_at bs a.row) c.on_row.result.now) (c.deref.ensures.value ∙ c.self.view_is)
    ∙ ap (filter_map (top_at a.self.now a.row)) c.on_row.ensures
    ∙ tops_on n a.self.now (subst (AreInRows n) c.self.view_is c.self.invariant.0) a.row in
    subst (λ (xs : List Span). IfOk c.tops_at.result (λ v. v.items ≡ xs)) is c.tops_at.ensures

use Rattle.std.proofs.Common.{◌∙◌, ◌&&◌, ℕ, List, nat_lt, ap}
use Rattle.std.specs.List.{list_any}
use Rattle.ladder_rows.specs.declared.boxes.outline.Outline.{Outline}
use Rattle.ladder_rows.specs.Boxes.{outlines}
use Rattle.ladder_rows.specs.BoxTests.{share_place}
use Rattle.ladder_rows.specs.Steps.RowBoxes.{holds_at}
use Rattle.ladder_text.proofs.Outlines.RisingBoxes.{outlines_rising}
use Rattle.ladder_text.proofs.Outlines.SharedBoxes.{any_shared}
use Rattle.ladder_text.proofs.places.marked_grid.MarkedGrid.shares_before.Goals as goal

pub returns : goal.returns
returns c =
    let a = c.args in
    let bs = outlines a.self.now in
    c.any_shares_place.ensures
    ∙ ap (λ (xs : List Outline). list_any (λ (i : ℕ). nat_lt i a.number && holds_at xs (share_place a.outline.now) i) c.boxes_on.result.now) c.boxes.ensures
    ∙ ap (list_any (λ (i : ℕ). nat_lt i a.number && holds_at bs (share_place a.outline.now) i)) c.boxes_on.ensures
    ∙ any_shared bs (outlines_rising c.boxes_are_whole.ensures a.self.now) a.number a.outline.now c.requires

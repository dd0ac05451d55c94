use Rattle.std.proofs.Common.{◌∙◌, ap}
use Rattle.std.specs.List.{list_any}
use Rattle.ladder_rows.specs.BoxTests.{pin_on}
use Rattle.ladder_rows.proofs.Outlines.RowPins.{pin_on_row}
use Rattle.ladder_rows.proofs.boxes.outline.Outline.has_pin.Goals as goal

pub returns : goal.returns
returns c = let a = c.args in c.any_on.ensures ∙ ap (list_any (pin_on a.side a.row)) c.pins_on.ensures ∙ pin_on_row a.side a.row c.as_slice.result.now ∙ ap (list_any (pin_on a.side a.row)) c.as_slice.ensures

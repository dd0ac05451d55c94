use Rattle.std.proofs.Common.{◌∙◌, ap}
use Rattle.std.specs.List.{list_any}
use Rattle.ladder_rows.specs.BoxTests.{pin_reaches}
use Rattle.ladder_rows.proofs.Outlines.RowPins.{reaching_on}
use Rattle.ladder_rows.proofs.boxes.outline.Outline.any_pin_reaches.Goals as goal

pub returns : goal.returns
returns c = let a = c.args in c.any_reaches.ensures ∙ ap (list_any (pin_reaches a.self.now a.row a.column)) c.pins_on.ensures ∙ reaching_on a.self.now a.row a.column c.as_slice.result.now ∙ ap (list_any (pin_reaches a.self.now a.row a.column)) c.as_slice.ensures

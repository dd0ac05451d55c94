use Rattle.std.proofs.Common.{◌∙◌, ap}
use Rattle.std.specs.List.{list_any}
use Rattle.ladder_rows.specs.BoxTests.{takes_word}
use Rattle.ladder_rows.proofs.Outlines.RowPins.{taking_on}
use Rattle.ladder_rows.proofs.boxes.outline.Outline.takes_word.Goals as goal

pub returns : goal.returns
returns c = let a = c.args in c.any_takes_word.ensures ∙ ap (list_any (takes_word a.side a.row a.column)) c.pins_on.ensures ∙ taking_on a.side a.row a.column c.as_slice.result.now ∙ ap (list_any (takes_word a.side a.row a.column)) c.as_slice.ensures

use Rattle.std.proofs.Common.{◌∙◌}
use Rattle.ladder_rows.proofs.Outlines.Corners.{none_in_row}
use Rattle.ladder_rows.proofs.boxes.outlines.row_outlines.Goals as goal

pub returns-then-not-may_begin_box : goal.returns-then-not-may_begin_box
returns-then-not-may_begin_box c = c.new-found.ensures.items ∙ none_in_row c.args.grid.now c.args.row c.if-not-may_begin_box.ensures

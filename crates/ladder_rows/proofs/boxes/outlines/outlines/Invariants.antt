use Rattle.std.proofs.Common.{◌≡◌}
use Rattle.ladder_rows.specs.Rows.{upto}
use Rattle.ladder_rows.specs.Boxes.{row_outlines}
use Rattle.ladder_rows.proofs.boxes.outlines.outlines.Given as goal

abbrev pub invariant-loop-row : goal.invariant-loop-row
invariant-loop-row l = l.all.items ≡ upto l.row (row_outlines l.grid)

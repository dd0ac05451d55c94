use Rattle.std.proofs.Common.{◌≡◌}
use Rattle.ladder_rows.specs.Rows.{upto}
use Rattle.ladder_rows.specs.Boxes.{option_list, box_at}
use Rattle.ladder_rows.proofs.boxes.outlines.row_outlines.Given as goal

abbrev pub invariant-loop-column : goal.invariant-loop-column
invariant-loop-column l = l.found.items ≡ upto l.column (λ c. option_list (box_at l.grid l.row c))

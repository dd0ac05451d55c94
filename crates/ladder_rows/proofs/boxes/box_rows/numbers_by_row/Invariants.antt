use Rattle.std.proofs.Common.{◌≡◌, length}
use Rattle.ladder_rows.specs.Steps.RowBoxes.{AreNumbered}
use Rattle.ladder_rows.proofs.boxes.box_rows.numbers_by_row.Given as goal

abbrev pub invariant-loop-number : goal.invariant-loop-number
invariant-loop-number l = (length l.by_row.items ≡ l.rows) × AreNumbered l.boxes l.number l.by_row.items

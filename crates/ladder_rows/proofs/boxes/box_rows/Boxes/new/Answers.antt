use Rattle.std.proofs.Common.{◌≡◌, length, arith}
use Rattle.ladder_rows.specs.Rows.{height}
use Rattle.ladder_rows.proofs.Outlines.WholeBoxes.{boxes_in_rows}
use Rattle.ladder_rows.proofs.boxes.box_rows.Boxes.new.Goals as goal

pub invariant_of-result : goal.invariant_of-result
invariant_of-result c =
    let d = c.args.grid.now in
    let rows = c.in_ok-by_row.ensures.rows in
    let n : length c.in_ok-by_row.by_row.items ≡ height d = omega arith in
    (rw (n, c.in_ok-outlines.ensures) (boxes_in_rows d), rw c.deref.ensures.value at c.in_ok-by_row.ensures.numbers)

use Rattle.std.proofs.Common.{◌+◌, ◌-◌, sym, ap, arith, rules}
use Rattle.ladder_rows.specs.Rows.{height}
use Rattle.ladder_rows.specs.Boxes.{has_sides, top_end}
use Rattle.ladder_rows.proofs.Rows.Runs.{run-is}
use Rattle.ladder_rows.proofs.boxes.outlines.bottom_row.Goals as goal
use Rattle.ladder_rows.proofs.boxes.outlines.bottom_row.Goals.{then-loop-n-test+else-has_sides, else-loop-n-test}

pub returns-clause-bottom : goal.returns-clause-bottom
returns-clause-bottom c =
    let a = c.args in
    let d = a.grid.now in
    elim c.loop-n-test.branch [
      | then-loop-n-test+else-has_sides w ↦ ap (λ n. a.row + 1 + n) (sym (run-is (has_sides d a.column (top_end d a.row a.column)) (a.row + 1) c.loop-n.n (height d - a.row) (omega arith) (λ j k. search rules) (λ k. search rules)))
      | else-loop-n-test w ↦ ap (λ n. a.row + 1 + n) (sym (run-is (has_sides d a.column (top_end d a.row a.column)) (a.row + 1) c.loop-n.n (height d - a.row) (omega arith) (λ j k. search rules) (λ k. absurd (omega arith))))
    ]

use Rattle.std.proofs.Common.{sym, arith, rules, ◌+◌}
use Rattle.ladder_rows.specs.Rows.{width}
use Rattle.ladder_rows.specs.Boxes.{left_column, is_blank_column}
use Rattle.ladder_rows.proofs.Rows.Runs.{run-from_zero}
use Rattle.ladder_rows.proofs.characters.rows.left_column.Goals as goal

pub returns-else-is_blank_column : goal.returns-else-is_blank_column
unfolding left_column
returns-else-is_blank_column c =
    let d = c.args.rows.now in
    sym (run-from_zero (is_blank_column d) c.loop-column.column (width d + 1) (omega arith) c.loop-column.invariant.1 (λ k. search rules))

pub returns-after-loop-column : goal.returns-after-loop-column
unfolding left_column
returns-after-loop-column c =
    let d = c.args.rows.now in
    sym (run-from_zero (is_blank_column d) c.loop-column.column (width d + 1) (omega arith) c.loop-column.invariant.1 (λ k. absurd (omega arith)))

use Rattle.std.proofs.Common.{ℕ, ◌<◌, IsFalse}
use Rattle.ladder_rows.specs.Faults.{bad_box}
use Rattle.ladder_rows.proofs.boxes.outlines.bad_box_in_row.Given as goal

abbrev pub invariant-loop-column : goal.invariant-loop-column
invariant-loop-column l = (k : ℕ) → k < l.column → IsFalse (bad_box l.grid l.row k)

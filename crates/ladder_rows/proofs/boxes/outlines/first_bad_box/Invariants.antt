use Rattle.std.proofs.Common.{ℕ, ◌<◌, ◌≤◌, IsFalse}
use Rattle.ladder_rows.specs.Rows.{width}
use Rattle.ladder_rows.specs.Faults.{bad_box}
use Rattle.ladder_rows.proofs.boxes.outlines.first_bad_box.Given as goal

abbrev pub invariant-loop-row : goal.invariant-loop-row
invariant-loop-row l = (r c : ℕ) → r < l.row → c ≤ width l.grid → IsFalse (bad_box l.grid r c)

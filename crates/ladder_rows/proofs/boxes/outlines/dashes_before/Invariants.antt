use Rattle.std.proofs.Common.{ℕ, ◌≡◌, ◌≤◌, ◌<◌, ◌-◌}
use Rattle.ladder_rows.specs.Rows.{char_at}
use Rattle.ladder_rows.proofs.boxes.outlines.dashes_before.Given as goal

abbrev pub invariant-loop-n : goal.invariant-loop-n
invariant-loop-n l = (l.n ≤ l.column) × ((k : ℕ) → k < l.n → char_at l.grid l.row (l.column - 1 - k) ≡ 45)

abbrev pub decreases-loop-n : goal.decreases-loop-n
decreases-loop-n l = l.column - l.n

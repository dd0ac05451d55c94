use Rattle.std.proofs.Common.{ℕ, ◌≡◌, ◌≤◌, ◌<◌, ◌+◌, ◌-◌, true}
use Rattle.ladder_rows.specs.Boxes.{has_sides}
use Rattle.ladder_rows.proofs.boxes.outlines.bottom_row.Given as goal

abbrev pub invariant-loop-n : goal.invariant-loop-n
invariant-loop-n l = (l.n ≤ l.limit) × ((k : ℕ) → k < l.n → has_sides l.grid l.column l.right (l.row + 1 + k) ≡ true)

abbrev pub decreases-loop-n : goal.decreases-loop-n
decreases-loop-n l = l.limit - l.n

use Rattle.std.proofs.Common.{ℕ, ◌≡◌, ◌≤◌, ◌<◌, ◌+◌, ◌-◌, true}
use Rattle.ladder_rows.specs.Boxes.{is_blank_column}
use Rattle.ladder_rows.proofs.characters.rows.left_column.Given as goal

abbrev pub invariant-loop-column : goal.invariant-loop-column
invariant-loop-column l = (l.column ≤ l.last + 1) × ((k : ℕ) → k < l.column → is_blank_column l.rows k ≡ true)

abbrev pub decreases-loop-column : goal.decreases-loop-column
decreases-loop-column l = l.last + 1 - l.column

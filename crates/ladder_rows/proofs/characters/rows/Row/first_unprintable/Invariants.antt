use Rattle.std.proofs.Common.{ℕ, ◌<◌, ◌≤◌, get_or}
use Rattle.ladder_rows.proofs.characters.rows.Row.first_unprintable.Given as goal

abbrev pub invariant-loop-column : goal.invariant-loop-column
invariant-loop-column l = (k : ℕ) → k < l.column → (32 ≤ get_or l.c-items k 32) × (get_or l.c-items k 32 ≤ 126)

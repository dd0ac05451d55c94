use Rattle.std.proofs.Common.{◌≡◌, ℕ, ◌<◌, [], length, get_or}
use Rattle.ladder_rows.proofs.boxes.box_rows.bare_rows.Given as goal

abbrev pub invariant-loop-row : goal.invariant-loop-row
invariant-loop-row l = (length l.all.items ≡ l.row) × ((k : ℕ) → k < l.row → get_or l.all.items k [] ≡ [])

use Rattle.std.proofs.Common.{ℕ, ◌+◌, ◌<◌, ◌≤◌, ◌≡◌, ◌≢◌, false, get_or}
use Rattle.ladder_rows.proofs.boxes.outlines.has_corner.Given as goal

abbrev pub invariant-loop-column : goal.invariant-loop-column
invariant-loop-column l =
    (2 ≤ l.column) × (l.found ≡ false → (c : ℕ) → l.left < c → c + 1 < l.column → get_or l.cells c 32 ≡ 43 → get_or l.cells (c + 1) 32 ≢ 45)

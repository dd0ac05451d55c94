use Rattle.std.proofs.Common.{ℕ, ◌<◌, ◌≤◌, ◌≡◌, true, get_or}
use Rattle.ladder_rows.proofs.characters.rows.Row.is_printable.Given as goal

abbrev pub invariant-loop-c : goal.invariant-loop-c
invariant-loop-c l = l.printable ≡ true → (k : ℕ) → k < l.c-index → (32 ≤ get_or l.c-items k 32) × (get_or l.c-items k 32 ≤ 126)

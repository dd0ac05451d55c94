use Rattle.std.proofs.Common.{ℕ, ◌+◌, ◌<◌, ◌≤◌, ◌≡◌, ◌≢◌, false, get_or}
use Rattle.ladder_text.proofs.names.spans.may_have_symbols.Given as goal

abbrev pub invariant-loop-column : goal.invariant-loop-column
invariant-loop-column l = (1 ≤ l.column) × (l.found ≡ false → (c : ℕ) → c + 1 < l.column → (get_or l.cells (c + 1) 32 ≡ 124 → (get_or l.cells c 32 ≢ 45) × (get_or l.cells c 32 ≢ 43)) × (get_or l.cells (c + 1) 32 ≢ 40))

use Rattle.std.proofs.Common.{ℕ, ◌<◌, ◌≤◌, ◌≡◌, ◌≢◌, false, get_or}
use Rattle.ladder_text.proofs.names.spans.may_have_words.Given as goal

abbrev pub invariant-loop-c : goal.invariant-loop-c
invariant-loop-c l =
    l.found ≡ false → (k : ℕ) → k < l.c-index → (48 ≤ get_or l.cells k 32 → get_or l.cells k 32 ≡ 124) × (get_or l.cells k 32 ≢ 46) × (get_or l.cells k 32 ≢ 35)

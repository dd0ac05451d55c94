use Rattle.std.proofs.Common.{◌≡◌, ℕ, ◌+◌, ◌<◌, ◌≤◌, ◌⊎◌, length}
use Rattle.scan_steps.specs.Conducting.{bit_at}
use Rattle.scan_steps.proofs.joined_rows.set_rows.Given as goal

abbrev pub invariant-loop-row : goal.invariant-loop-row
invariant-loop-row l = record {
  long : length l.rows ≡ length l.initial.rows;
  within : (k : ℕ) → l.first ≤ k → k < l.row → bit_at l.rows k ≡ l.on;
  bound : (l.row ≤ l.last + 1) ⊎ (l.row ≡ l.first);
  outside : (k : ℕ) → (k < l.first) ⊎ (l.row ≤ k) → bit_at l.rows k ≡ bit_at l.initial.rows k;
}

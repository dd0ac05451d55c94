use Rattle.std.proofs.Common.{◌≡◌, ℕ, ◌+◌, ◌<◌, ◌≤◌, ◌⊎◌, Bool, length}
use Rattle.gates.specs.Signals.{signal_value}
use Rattle.scan_steps.specs.Conducting.{bit_at}
use Rattle.scan_gates.specs.Encoded.{bits_at}
use Rattle.scan_gates.proofs.joining.set_rows.Given as goal

abbrev pub invariant-loop-row : goal.invariant-loop-row
invariant-loop-row l = record {
  long : length l.rows ≡ length l.initial.rows;
  within : (v : ℕ → Bool) (k : ℕ) → l.first ≤ k → k < l.row → bit_at (bits_at v l.rows) k ≡ signal_value v l.on;
  bound : (l.row ≤ l.last + 1) ⊎ (l.row ≡ l.first);
  outside : (v : ℕ → Bool) (k : ℕ) → (k < l.first) ⊎ (l.row ≤ k) → bit_at (bits_at v l.rows) k ≡ bit_at (bits_at v l.initial.rows) k;
}

use Rattle.std.proofs.Common.{◌≡◌, ℕ, Bool, take, length}
use Rattle.gates.specs.Signals.{signal_value}
use Rattle.scan_steps.specs.Conducting.{bit_at}
use Rattle.scan_steps.specs.Steps.BoxSteps.{HasOutput}
use Rattle.scan_gates.specs.Encoded.{bits_at}
use Rattle.scan_gates.proofs.boxes.clear_rows.Given as goal

abbrev pub invariant-loop-pin : goal.invariant-loop-pin
invariant-loop-pin l = record {
  long : length l.rows ≡ length l.initial.rows;
  cleared : (v : ℕ → Bool) (r : ℕ) → HasOutput (take l.pin-index l.pins) r → bit_at (bits_at v l.rows) r ≡ signal_value v l.off;
  kept : (v : ℕ → Bool) (r : ℕ) → (HasOutput (take l.pin-index l.pins) r → ⊥) → bit_at (bits_at v l.rows) r ≡ bit_at (bits_at v l.initial.rows) r;
}

use Rattle.std.proofs.Common.{◌≡◌, ℕ, false, take, length}
use Rattle.scan_steps.specs.Conducting.{bit_at}
use Rattle.scan_steps.specs.Steps.BoxSteps.{HasOutput}
use Rattle.scan_steps.proofs.box_rows.clear_many.Given as goal

abbrev pub invariant-loop-pin : goal.invariant-loop-pin
invariant-loop-pin l = record {
  long : length l.rows ≡ length l.initial.rows;
  cleared : (r : ℕ) → HasOutput (take l.pin-index l.pins) r → bit_at l.rows r ≡ false;
  kept : (r : ℕ) → (HasOutput (take l.pin-index l.pins) r → ⊥) → bit_at l.rows r ≡ bit_at l.initial.rows r;
}

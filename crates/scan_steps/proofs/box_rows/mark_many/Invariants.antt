use Rattle.std.proofs.Common.{◌≡◌, ℕ, ◌⊎◌, ◌↔◌, true, take, length}
use Rattle.scan_steps.specs.Conducting.{bit_at}
use Rattle.scan_steps.specs.Steps.BoxSteps.{IsMarked}
use Rattle.scan_steps.proofs.box_rows.mark_many.Given as goal

abbrev pub invariant-loop-pin : goal.invariant-loop-pin
invariant-loop-pin l = record {
  long : length l.rows ≡ length l.initial.rows;
  marked : (r : ℕ) → (bit_at l.rows r ≡ true) ↔ ((bit_at l.initial.rows r ≡ true) ⊎ IsMarked (take l.pin-index l.pins) l.outputs r);
}

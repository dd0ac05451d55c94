use Rattle.std.proofs.Common.{◌≡◌, ℕ, Bool, take, length}
use Rattle.gates.specs.Gates.{Agrees}
use Rattle.scan_steps.specs.Steps.Passing.{AreMarked}
use Rattle.scan_gates.specs.Encoded.{bits_at, instance_at}
use Rattle.scan_gates.proofs.boxes.mark_rows.Given as goal

abbrev pub invariant-loop-pin : goal.invariant-loop-pin
invariant-loop-pin l = record {
  long : length l.rows ≡ length l.initial.rows;
  built : (v : ℕ → Bool) → Agrees v l.gates → Agrees v l.fn.gates
      × AreMarked (take l.pin-index l.pins) (instance_at v l.shown).outputs (bits_at v l.initial.rows) (bits_at v l.rows);
}

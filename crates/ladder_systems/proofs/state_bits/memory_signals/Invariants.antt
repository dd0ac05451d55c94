use Rattle.std.proofs.Common.{◌≡◌, ◌++◌, ℕ, Bool, length, take}
use Rattle.gates.specs.Gates.{Agrees}
use Rattle.scan_gates.specs.Encoded.{bits_at}
use Rattle.ladder_systems.specs.Remembering.{marked}
use Rattle.ladder_systems.specs.Steps.States.{AreQuiet}
use Rattle.ladder_systems.proofs.state_bits.memory_signals.Given as goal

abbrev pub invariant-loop-mark : goal.invariant-loop-mark
invariant-loop-mark l = record {
  quiet : (v : ℕ → Bool) → Agrees v l.gates → Agrees v l.fn.gates × AreQuiet (take l.mark-index l.marks) (bits_at v l.memories.items);
  bits : l.bits.items ≡ l.initial.bits.items ++ marked (take l.mark-index l.marks) l.memories.items;
  long : length l.memories.items ≡ l.mark-index;
}

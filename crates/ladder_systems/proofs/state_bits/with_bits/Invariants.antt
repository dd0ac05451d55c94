use Rattle.std.proofs.Common.{◌≡◌, ◌++◌, ℕ, Bool, [], take}
use Rattle.gates.specs.Gates.{Agrees}
use Rattle.scan_gates.specs.States.{AreLike, state_signals}
use Rattle.ladder_systems.proofs.state_bits.with_bits.Given as goal

abbrev pub invariant-loop-slot : goal.invariant-loop-slot
invariant-loop-slot l = record {
  built : (v : ℕ → Bool) → Agrees v l.gates → Agrees v l.fn.gates;
  like : AreLike (take l.slot-index l.slots) l.made.items;
  bits : l.bits.items ≡ l.initial.bits.items ++ state_signals l.made.items [];
}

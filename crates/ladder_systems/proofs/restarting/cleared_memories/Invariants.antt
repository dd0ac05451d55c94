use Rattle.std.proofs.Common.{◌≡◌, ℕ, Bool, false, if◌then◌else◌, length, replicate, take}
use Rattle.gates.specs.Gates.{Agrees}
use Rattle.gates.specs.Signals.{signal_value}
use Rattle.scan_gates.specs.Encoded.{bits_at}
use Rattle.ladder_systems.proofs.restarting.cleared_memories.Given as goal

abbrev pub invariant-loop-memory : goal.invariant-loop-memory
invariant-loop-memory l = record {
  built : (v : ℕ → Bool) → Agrees v l.gates → Agrees v l.fn.gates
      × (bits_at v l.cleared.items ≡ (if signal_value v l.condition then replicate l.memory-index false else bits_at v (take l.memory-index l.memories)));
  long : length l.cleared.items ≡ l.memory-index;
}

use Rattle.std.proofs.Common.{◌≡◌, ℕ, Bool, drop, length}
use Rattle.gates.specs.Gates.{Agrees}
use Rattle.scan_gates.specs.Encoded.{bits_at, slots_at}
use Rattle.power_flow.specs.Steps.BoxStores.{kinds_stored}
use Rattle.power_flow.specs.Steps.CoilStores.{bound_stores, bound_memories}
use Rattle.ladder_gates.proofs.coil_stores.store_coils.Given as goal

abbrev pub invariant-loop-k : goal.invariant-loop-k
invariant-loop-k l = record {
  long : length l.memories ≡ length l.initial.memories;
  built : (v : ℕ → Bool) → Agrees v l.gates → Agrees v l.fn.gates
      × (kinds_stored (slots_at v l.slots) (bound_stores (drop l.k l.coils) l.k (bits_at v l.links) (bits_at v l.memories))
      ≡ kinds_stored (slots_at v l.initial.slots) (bound_stores l.coils 0 (bits_at v l.links) (bits_at v l.initial.memories)))
      × (bound_memories (drop l.k l.coils) l.k (bits_at v l.links) (bits_at v l.memories)
      ≡ bound_memories l.coils 0 (bits_at v l.links) (bits_at v l.initial.memories));
}

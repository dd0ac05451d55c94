use Rattle.std.proofs.Common.{◌≡◌, drop, length}
use Rattle.power_flow.specs.Steps.BoxStores.{kinds_stored}
use Rattle.power_flow.specs.Steps.CoilStores.{bound_stores, bound_memories}
use Rattle.power_flow.proofs.scan.scan.store_coils.Given as goal

abbrev pub invariant-loop-k : goal.invariant-loop-k
invariant-loop-k l = record {
  long : length l.memories ≡ length l.initial.memories;
  slots : kinds_stored l.slots (bound_stores (drop l.k l.coils) l.k l.links l.memories) ≡ kinds_stored l.initial.slots (bound_stores l.coils 0 l.links l.initial.memories);
  memories : bound_memories (drop l.k l.coils) l.k l.links l.memories ≡ bound_memories l.coils 0 l.links l.initial.memories;
}

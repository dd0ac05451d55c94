use Rattle.std.proofs.Common.{◌≡◌, ℕ, Bool, drop}
use Rattle.gates.specs.Gates.{Agrees}
use Rattle.scan_gates.specs.Encoded.{instances_at, slots_at}
use Rattle.power_flow.specs.Steps.BoxStores.{boxes_stored}
use Rattle.ladder_gates.proofs.box_stores.store_boxes.Given as goal

abbrev pub invariant-loop-k : goal.invariant-loop-k
invariant-loop-k l = (v : ℕ → Bool) → Agrees v l.gates
    → boxes_stored (drop l.k l.boxes) (drop l.k (instances_at v l.results)) (slots_at v l.slots)
    ≡ boxes_stored l.boxes (instances_at v l.results) (slots_at v l.initial.slots)

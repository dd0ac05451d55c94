use Rattle.std.proofs.Common.{◌≡◌, ℕ, Bool, drop}
use Rattle.gates.specs.Gates.{Agrees}
use Rattle.scan_gates.specs.Encoded.{instance_at, slots_at}
use Rattle.power_flow.specs.Steps.BoxStores.{kinds_stored, pin_stores}
use Rattle.ladder_gates.proofs.box_stores.store_pins.Given as goal

abbrev pub invariant-loop-pin : goal.invariant-loop-pin
invariant-loop-pin l = (v : ℕ → Bool) → Agrees v l.gates
    → kinds_stored (slots_at v l.slots) (pin_stores (instance_at v l.made).outputs (drop l.pin-index l.pins))
    ≡ kinds_stored (slots_at v l.initial.slots) (pin_stores (instance_at v l.made).outputs l.pins)

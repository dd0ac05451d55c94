use Rattle.std.proofs.Common.{◌≡◌, drop}
use Rattle.power_flow.specs.Steps.BoxStores.{pin_stores, kinds_stored}
use Rattle.power_flow.proofs.scan.boxes.store_many.Given as goal

abbrev pub invariant-loop-pin : goal.invariant-loop-pin
invariant-loop-pin l = kinds_stored l.slots (pin_stores l.outputs (drop l.pin-index l.pins)) ≡ kinds_stored l.initial.slots (pin_stores l.outputs l.pins)

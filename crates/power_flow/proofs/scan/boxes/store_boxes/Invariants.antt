use Rattle.std.proofs.Common.{◌≡◌, drop}
use Rattle.power_flow.specs.Steps.BoxStores.{boxes_stored}
use Rattle.power_flow.proofs.scan.boxes.store_boxes.Given as goal

abbrev pub invariant-loop-k : goal.invariant-loop-k
invariant-loop-k l = boxes_stored (drop l.k l.boxes) (drop l.k l.results) l.slots ≡ boxes_stored l.boxes l.results l.initial.slots

use Rattle.std.proofs.Common.{◌≡◌, ℕ, All, take, length}
use Rattle.std.specs.List.{AllZip}
use Rattle.name_faults.specs.Steps.Named.{IsNamedBox}
use Rattle.power_flow.specs.Steps.BoxTable.{ArePinsIn, AreOutputsIn}
use Rattle.power_flow.specs.Steps.BoxTable.{boxes_of, IsBoundBox}
use Rattle.power_flow.proofs.binding.box_binding.bind_boxes.Given as goal

abbrev pub invariant-loop-element : goal.invariant-loop-element
invariant-loop-element l = record {
  count : length l.boxes.items ≡ length (boxes_of (take l.element-index l.elements));
  within : (rows : ℕ) → All (ArePinsIn l.top rows) (boxes_of (take l.element-index l.elements)) → AreOutputsIn rows l.boxes.items;
  bound : All (IsNamedBox l.declarations) (boxes_of (take l.element-index l.elements)) → AllZip (IsBoundBox l.declarations l.top) (boxes_of (take l.element-index l.elements)) l.boxes.items;
}

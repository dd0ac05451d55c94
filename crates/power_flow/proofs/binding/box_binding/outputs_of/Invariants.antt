use Rattle.std.proofs.Common.{◌<◌, ℕ, All, take}
use Rattle.std.specs.List.{AllZip}
use Rattle.name_faults.specs.Steps.Named.{AreOutputs}
use Rattle.power_flow.specs.Steps.BoxTable.{ArePinsIn}
use Rattle.power_flow.specs.Steps.BoxTable.{right_pins, IsBoundOutput}
use Rattle.power_flow.proofs.binding.box_binding.outputs_of.Given as goal

abbrev pub invariant-loop-pin : goal.invariant-loop-pin
invariant-loop-pin l = record {
  within : (rows : ℕ) → ArePinsIn l.top rows l.drawn → All (λ o. o.row < rows) l.outputs.items;
  bound : AreOutputs l.drawn l.block → AllZip (IsBoundOutput l.declarations l.top l.block) (right_pins (take l.pin-index l.drawn.pins)) l.outputs.items;
}

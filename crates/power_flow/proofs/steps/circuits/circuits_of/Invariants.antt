use Rattle.std.proofs.Common.{◌≡◌, All, map}
use Rattle.power_flow.specs.declared.steps.circuit.Circuit.{Circuit}
use Rattle.name_faults.specs.Steps.Named.{AreNamed}
use Rattle.power_flow.specs.Steps.Circuit.{AreCircuits, HasShape}
use Rattle.power_flow.proofs.steps.circuits.circuits_of.Given as goal

abbrev pub invariant-loop-network : goal.invariant-loop-network
invariant-loop-network l = record {
  elements : map (λ (c : Circuit). c.elements.items) l.circuits.items ≡ l.yielded;
  circuits : All (AreNamed l.declarations) l.yielded → AreCircuits l.declarations l.rails l.circuits.items;
  shape : All HasShape l.circuits.items;
}

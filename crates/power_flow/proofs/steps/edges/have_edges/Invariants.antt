use Rattle.std.proofs.Common.{take}
use Rattle.power_flow.specs.Steps.Edges.{AreEdgelessCircuits}
use Rattle.power_flow.proofs.steps.edges.have_edges.Given as goal

abbrev pub invariant-loop-circuit : goal.invariant-loop-circuit
invariant-loop-circuit l = AreEdgelessCircuits (take l.circuit-index l.circuits)

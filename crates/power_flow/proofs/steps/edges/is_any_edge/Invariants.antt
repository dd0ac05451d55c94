use Rattle.std.proofs.Common.{take}
use Rattle.power_flow.specs.Steps.Edges.{AreEdgeless}
use Rattle.power_flow.proofs.steps.edges.is_any_edge.Given as goal

abbrev pub invariant-loop-element : goal.invariant-loop-element
invariant-loop-element l = AreEdgeless (take l.element-index l.elements)

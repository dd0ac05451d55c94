use Rattle.std.proofs.Common.{take}
use Rattle.std.specs.List.{flat_map}
use Rattle.name_faults.specs.Steps.ElementFindings.{element_findings}
use Rattle.name_faults.specs.Steps.ElementFindings.{IsFirstFinding}
use Rattle.name_faults.proofs.element_faults.network_finding.Given as goal

abbrev pub invariant-loop-element : goal.invariant-loop-element
invariant-loop-element l = IsFirstFinding (flat_map (element_findings l.declarations l.elements) (take l.element-index l.elements)) l.first

use Rattle.std.proofs.Common.{take}
use Rattle.name_faults.specs.Steps.ElementFindings.{findings, IsFirstFinding}
use Rattle.name_faults.proofs.element_faults.first_finding.Given as goal

abbrev pub invariant-loop-network : goal.invariant-loop-network
invariant-loop-network l = IsFirstFinding (findings l.declarations (take l.network-index l.networks)) l.first

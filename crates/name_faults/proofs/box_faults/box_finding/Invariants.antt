use Rattle.std.proofs.Common.{take, ◌++◌}
use Rattle.name_faults.specs.Steps.ElementFindings.{IsFirstFinding}
use Rattle.name_faults.specs.Steps.BoxFindings.{corner_findings, pins_findings}
use Rattle.name_faults.proofs.box_faults.box_finding.Given as goal

abbrev pub invariant-loop-k : goal.invariant-loop-k
invariant-loop-k l = IsFirstFinding (corner_findings l.declarations l.drawn ++ pins_findings l.declarations l.elements l.drawn 0 (take l.k l.drawn.pins)) l.first

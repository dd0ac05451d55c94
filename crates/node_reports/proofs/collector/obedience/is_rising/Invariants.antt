-- The tickets of the steps before the present one rise up to the last one.
use Rattle.std.proofs.Common.{take}
use Rattle.node_reports.specs.Reports.{tickets_of}
use Rattle.node_reports.specs.Steps.Collecting.{RiseTo}
use Rattle.node_reports.proofs.collector.obedience.is_rising.Given as goal

abbrev pub invariant-loop-k : goal.invariant-loop-k
invariant-loop-k l = RiseTo (tickets_of (take l.k l.steps)) l.last

-- The steps have come as far as the entries before the present one.
use Rattle.std.proofs.Common.{take}
use Rattle.node_reports.specs.Steps.Collecting.{HaveCome}
use Rattle.node_reports.proofs.collector.agreement.are_made.Given as goal

abbrev pub invariant-loop-k : goal.invariant-loop-k
invariant-loop-k l = HaveCome (take l.k l.entries) l.resource l.steps l.at

-- The incarnations of the restarts before the present step are appended.
use Rattle.std.proofs.Common.{◌≡◌, ◌++◌, take}
use Rattle.std.specs.List.{filter_map}
use Rattle.node_reports.specs.Reports.{restarted_in}
use Rattle.node_reports.proofs.collector.hearings.push_all.Given as goal

abbrev pub invariant-loop-k : goal.invariant-loop-k
invariant-loop-k l = l.incarnations ≡ l.fn.incarnations ++ filter_map restarted_in (take l.k l.steps)

-- Each fault before the present one is told of a command.
use Rattle.std.proofs.Common.{ℕ, ◌<◌, get_or}
use Rattle.node_reports.specs.declared.node_fault.NodeFault.{NodeFault}
use Rattle.node_reports.specs.Reports.{IsToldOf}
use Rattle.node_reports.proofs.collector.told.are_told.Given as goal

abbrev pub invariant-loop-k : goal.invariant-loop-k
invariant-loop-k l = (i : ℕ) (d : NodeFault) → i < l.k → IsToldOf l.plant l.commands l.journals l.unanswered (get_or l.faults i d)

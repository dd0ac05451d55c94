-- The faults before the present one are listed, the first of each ticket.
use Rattle.node_reports.specs.Steps.Collecting.{AreListedUpTo}
use Rattle.node_reports.proofs.node_faults.first_of_each.Given as goal

abbrev pub invariant-loop-k : goal.invariant-loop-k
invariant-loop-k l = AreListedUpTo l.k l.sorted l.listed.items l.last

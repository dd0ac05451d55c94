-- The marks tell of the tickets before the present one.
use Rattle.std.proofs.Common.{take}
use Rattle.node_reports.specs.Steps.Collecting.{AreTicketMarks}
use Rattle.node_reports.proofs.collector.unanswered.marks.Given as goal

abbrev pub invariant-loop-k : goal.invariant-loop-k
invariant-loop-k l = AreTicketMarks l.count (take l.k l.tickets) l.marks.items

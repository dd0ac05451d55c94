use Rattle.node_reports.proofs.TicketMarks.{marks_of_entries}
use Rattle.node_reports.proofs.collector.unanswered.answered.Goals as goal

pub returns : goal.returns
returns g c = marks_of_entries c.args.count c.args.entries.now c.in_ok-marks.marks.items (rw (← c.in_ok-tickets.ensures, ← c.as_slice.ensures.value) c.in_ok-marks.ensures)

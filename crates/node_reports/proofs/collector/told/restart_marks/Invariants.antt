-- The marks tell of the journals before the present one, and are as many as they were.
use Rattle.std.proofs.Common.{◌≡◌, length, take}
use Rattle.node_reports.specs.Steps.Collecting.{AreRestartMarks}
use Rattle.node_reports.proofs.collector.told.restart_marks.Given as goal

abbrev pub invariant-loop-i : goal.invariant-loop-i
invariant-loop-i l = AreRestartMarks (take l.i l.journals) l.marks.items × (length l.marks.items ≡ l.count)

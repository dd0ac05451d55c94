-- Those of the journals before the present one are listed.
use Rattle.std.proofs.Common.{take}
use Rattle.node_reports.specs.Steps.Collecting.{AreIncarnationsOf}
use Rattle.node_reports.proofs.collector.hearings.all_incarnations.Given as goal

abbrev pub invariant-loop-journal : goal.invariant-loop-journal
invariant-loop-journal l = AreIncarnationsOf (take l.journal-index l.journals) l.all.items

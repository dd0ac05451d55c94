-- The marks tell which resources one of the faults before the present one may have stopped, and each resource that has stopped is among them.
use Rattle.std.proofs.Common.{[], take}
use Rattle.node_reports.specs.Steps.Collecting.{AreStopMarks, AreStopsTold}
use Rattle.node_reports.proofs.collector.stops.all_follow.Given as goal

abbrev pub invariant-loop-k : goal.invariant-loop-k
invariant-loop-k l = AreStopMarks [] l.fn.marks → AreStopMarks (take l.k l.faults) l.marks × AreStopsTold l.k l.faults

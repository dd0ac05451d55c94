use Rattle.evaluation.proofs.MappedLists.{InPlace}
use Rattle.evaluation.proofs.ScannedPrograms.{ScansProgram}
use Rattle.evaluation.proofs.scan.scan_programs.Given as goal

abbrev pub invariant-loop-i : goal.invariant-loop-i
invariant-loop-i l = InPlace (ScansProgram l.code l.dt) l.i l.fn.states l.states

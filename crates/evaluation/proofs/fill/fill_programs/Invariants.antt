use Rattle.evaluation.proofs.MappedLists.{InPlace}
use Rattle.evaluation.proofs.FilledInputs.{FillsProgram}
use Rattle.evaluation.proofs.fill.fill_programs.Given as goal

abbrev pub invariant-loop-i : goal.invariant-loop-i
invariant-loop-i l = InPlace (FillsProgram l.code l.inputs l.takes) l.i l.fn.states l.states

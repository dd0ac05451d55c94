use Rattle.name_faults.proofs.GuessedNames.{FirstsTo}
use Rattle.name_faults.proofs.guess.declare_all.Given as goal

abbrev pub invariant-loop-name_use : goal.invariant-loop-name_use
invariant-loop-name_use l = FirstsTo l.uses l.declarations l.name_use-index

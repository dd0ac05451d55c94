use Rattle.evaluation.proofs.FilledInputs.{FilledTo}
use Rattle.evaluation.proofs.fill.fill_program.Given as goal

abbrev pub invariant-loop-binding : goal.invariant-loop-binding
invariant-loop-binding l = FilledTo l.inputs l.takes l.bindings l.binding-index l.fn.state l.state

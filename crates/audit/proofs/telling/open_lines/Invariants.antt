-- What can't be shown of the resources before the present one.
use Rattle.audit.specs.Steps.Settled.{AreToldOf}
use Rattle.audit.proofs.telling.open_lines.Given as goal

abbrev pub invariant-loop-n : goal.invariant-loop-n
invariant-loop-n l = AreToldOf l.book l.followers l.n l.unshown.items

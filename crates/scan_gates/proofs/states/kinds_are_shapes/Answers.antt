use Rattle.scan_gates.proofs.Shapes.{slots_declared}
use Rattle.scan_gates.proofs.states.kinds_are_shapes.Goals as goal

pub returns : goal.returns
returns c = slots_declared

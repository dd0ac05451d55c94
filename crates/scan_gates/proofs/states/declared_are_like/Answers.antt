use Rattle.scan_gates.proofs.Shapes.{declared_alike}
use Rattle.scan_gates.proofs.states.declared_are_like.Goals as goal

pub returns : goal.returns
returns c = declared_alike

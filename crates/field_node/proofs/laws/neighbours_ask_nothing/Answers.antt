use Rattle.field_node.proofs.Neighbours.{ask_nothing}
use Rattle.field_node.proofs.laws.neighbours_ask_nothing.Goals as goal

pub returns : goal.returns
returns c = λ cycles plant line. ask_nothing cycles plant line

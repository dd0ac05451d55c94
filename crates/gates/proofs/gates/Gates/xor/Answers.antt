use Rattle.gates.proofs.Built.{first_built}
use Rattle.gates.proofs.gates.Gates.xor.Goals as goal

pub returns : goal.returns
returns c =
    first_built c.args.self.now c.if_then_else.new.self c.args.left c.negated.result c.args.right c.args.right c.negated.ensures
    c.if_then_else.result c.if_then_else.ensures

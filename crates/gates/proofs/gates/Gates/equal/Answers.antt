use Rattle.gates.proofs.Built.{second_built}
use Rattle.gates.proofs.gates.Gates.equal.Goals as goal

pub returns : goal.returns
returns c =
    second_built c.args.self.now c.if_then_else.new.self c.args.left c.args.right c.negated.result c.args.right c.negated.ensures
    c.if_then_else.result c.if_then_else.ensures

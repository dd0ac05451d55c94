use Rattle.gates.proofs.Built.{choice_built}
use Rattle.gates.proofs.gates.Gates.if_then_else.Goals as goal

pub returns : goal.returns
returns c =
    choice_built c.args.self.now c.and.new.self c.and-2.new.self c.or.new.self c.args.condition c.args.first c.args.second
    c.in_ok-chosen.chosen c.negated.result c.in_ok-not_chosen.not_chosen c.in_ok-chosen.ensures c.negated.ensures
    c.in_ok-not_chosen.ensures c.or.result c.or.ensures

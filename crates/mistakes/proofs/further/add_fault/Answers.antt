use Rattle.mistakes.proofs.Noting.{left_of_rest}
use Rattle.mistakes.proofs.further.add_fault.Goals as goal

pub returns-clause-left : goal.returns-clause-left
returns-clause-left c = left_of_rest c.args.whole.now c.args.rest.now c.rest_of.result c.requires c.rest_of.ensures

use Rattle.audit.proofs.OneTelling.{one_telling}
use Rattle.audit.proofs.laws.one_telling.Goals as goal

pub returns : goal.returns
returns c = one_telling c.one_evaluation.ensures c.taken_alike.ensures

use Rattle.evaluation.proofs.Meant
use Rattle.evaluation.proofs.laws.one_evaluation.Goals as goal

pub returns : goal.returns
returns c = Rattle.evaluation.proofs.Meant.one_evaluation c.one_meaning.ensures

use Rattle.evaluation.proofs.Meant
use Rattle.evaluation.proofs.laws.one_meaning.Goals as goal

pub returns : goal.returns
returns c = Rattle.evaluation.proofs.Meant.one_meaning c.one_scan.ensures

use Rattle.evaluation.proofs.TakenAlike
use Rattle.evaluation.proofs.message.taken_alike.Goals as goal

pub returns : goal.returns
returns c = Rattle.evaluation.proofs.TakenAlike.taken_alike

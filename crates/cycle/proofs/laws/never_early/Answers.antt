use Rattle.cycle.proofs.Counting.{is_never_early}
use Rattle.cycle.proofs.laws.never_early.Goals as goal

pub returns : goal.returns
returns c = λ old new reading asked. is_never_early old new reading asked

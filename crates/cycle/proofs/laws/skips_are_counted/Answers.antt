use Rattle.cycle.proofs.Counting.{all_done}
use Rattle.cycle.proofs.laws.skips_are_counted.Goals as goal

pub returns : goal.returns
returns c = λ n first last steps. all_done n first last steps

use Rattle.cycle.proofs.Counting.{all_counted}
use Rattle.cycle.proofs.laws.dts_add_up.Goals as goal

pub returns : goal.returns
returns c = λ n first last steps. all_counted n first last steps

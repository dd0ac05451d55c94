use Rattle.traces.proofs.Planning.{planned_times}
use Rattle.traces.proofs.laws.planned_times.Goals as goal

pub returns : goal.returns
returns c = λ resources until dues plan small. planned_times resources until dues plan small

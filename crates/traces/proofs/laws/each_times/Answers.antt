use Rattle.traces.proofs.Planning.{each_times}
use Rattle.traces.proofs.laws.each_times.Goals as goal

pub returns : goal.returns
returns c = λ step moments small. each_times step moments small

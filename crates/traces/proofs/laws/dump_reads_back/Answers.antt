use Rattle.traces.proofs.Reading.{is_read_back}
use Rattle.traces.proofs.laws.dump_reads_back.Goals as goal

pub returns : goal.returns
returns c = λ time moments tracks times few all. is_read_back time moments tracks times few all

use Rattle.tested_schedules.proofs.Untested.{untested}
use Rattle.tested_schedules.proofs.laws.untested_runs.Goals as goal

pub returns : goal.returns
returns c = untested

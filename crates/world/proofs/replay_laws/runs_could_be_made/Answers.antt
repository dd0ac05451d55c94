use Rattle.world.proofs.Schedules.Replayable.{could_be_made}
use Rattle.world.proofs.replay_laws.runs_could_be_made.Goals as goal

pub returns : goal.returns
returns c = could_be_made

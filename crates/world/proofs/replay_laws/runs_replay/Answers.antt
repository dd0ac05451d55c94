use Rattle.world.proofs.Schedules.Replayable.{run_again}
use Rattle.world.proofs.replay_laws.runs_replay.Goals as goal

pub returns : goal.returns
returns c = run_again

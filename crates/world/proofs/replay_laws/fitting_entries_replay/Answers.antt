use Rattle.world.proofs.Schedules.Replaying.{replays}
use Rattle.world.proofs.replay_laws.fitting_entries_replay.Goals as goal

pub returns : goal.returns
returns c = replays

-- A run is a consistent log.
use Rattle.world.proofs.Consistency.Places.{run-consistent}
use Rattle.world.proofs.log_laws.runs_are_consistent.Goals as goal

pub returns : goal.returns
returns c = run-consistent c.takes_never_fall.ensures

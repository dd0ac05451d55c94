-- The log of a run is entered without a misfit.
use Rattle.world.proofs.Consistency.Entered.{runs-entered}
use Rattle.world.proofs.log_laws.runs_are_entered.Goals as goal

pub returns : goal.returns
returns c = runs-entered

-- Each evaluation of a run fits those before it.
use Rattle.world.proofs.Consistency.Entered.{run-fits}
use Rattle.world.proofs.log_laws.runs_fit.Goals as goal

pub returns : goal.returns
returns c = run-fits

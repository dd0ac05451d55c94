-- Resources that hold one evaluation hold equal values.
use Rattle.world.proofs.Consistency.Entered.{holders-agree}
use Rattle.world.proofs.log_laws.holders_agree.Goals as goal

pub returns : goal.returns
returns c = holders-agree

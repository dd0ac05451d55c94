-- The consistency theorem holds.
use Rattle.world.proofs.Consistency.Makings.{consistency-theorem}
use Rattle.world.proofs.log_laws.consistency_theorem.Goals as goal

pub returns : goal.returns
returns c = consistency-theorem c.takes_never_fall.ensures

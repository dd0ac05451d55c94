use Rattle.world.proofs.Histories.Pairs.{pairs-rise}
use Rattle.world.proofs.laws.pairs_rise.Goals as goal

pub returns : goal.returns
returns c = pairs-rise

use Rattle.plant.proofs.SmallCounts.{counts_are}
use Rattle.plant.proofs.laws.counts_are_small.Goals as goal

pub returns : goal.returns
returns c = counts_are

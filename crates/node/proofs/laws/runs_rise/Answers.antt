use Rattle.node.proofs.Rising.{runs_rise}
use Rattle.node.proofs.laws.runs_rise.Goals as goal

pub returns : goal.returns
returns g c = runs_rise g.K.Keeper.last g.K.Keeper.kept_gives

use Rattle.plant.proofs.OneNetworks.{ladder_once}
use Rattle.plant.proofs.ladder_laws.program_has_one_ladder.Goals as goal

pub returns : goal.returns
returns c = ladder_once c.one_ladder.ensures

use Rattle.plant.proofs.OneTexts.{tree_plant_once}
use Rattle.plant.proofs.laws.one_plant_of_tree.Goals as goal

pub returns : goal.returns
returns c = tree_plant_once c.program_has_one_ladder.ensures

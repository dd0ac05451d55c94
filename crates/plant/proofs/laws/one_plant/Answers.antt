use Rattle.plant.proofs.OneTexts.{text_plant_once}
use Rattle.plant.proofs.laws.one_plant.Goals as goal

pub returns : goal.returns
returns c = text_plant_once c.one_tree.ensures c.one_plant_of_tree.ensures

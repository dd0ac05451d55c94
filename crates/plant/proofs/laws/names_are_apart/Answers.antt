use Rattle.plant.proofs.NamesApart.{names_apart}
use Rattle.plant.proofs.laws.names_are_apart.Goals as goal

pub returns : goal.returns
returns c = names_apart

use Rattle.declared_names.proofs.Places.{one_name}
use Rattle.declared_names.proofs.laws.names_of_one_place_are_one.Goals as goal

pub returns : goal.returns
returns c = one_name

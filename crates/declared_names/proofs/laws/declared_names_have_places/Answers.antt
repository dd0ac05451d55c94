use Rattle.declared_names.proofs.Places.{found_declared}
use Rattle.declared_names.proofs.laws.declared_names_have_places.Goals as goal

pub returns : goal.returns
returns c = found_declared

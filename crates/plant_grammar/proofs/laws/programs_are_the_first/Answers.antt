use Rattle.plant_grammar.proofs.OneTree.{programs_first}
use Rattle.plant_grammar.proofs.laws.programs_are_the_first.Goals as goal

pub returns : goal.returns
returns c = programs_first

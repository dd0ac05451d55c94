use Rattle.plant.proofs.ReadTexts.{one_program_of_text}
use Rattle.plant.proofs.laws.one_program.Goals as goal

pub returns : goal.returns
returns c = one_program_of_text c.program_has_one_ladder.ensures c.one_tree.ensures

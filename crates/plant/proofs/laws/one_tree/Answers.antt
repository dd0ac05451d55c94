use Rattle.std.proofs.Common.{arith}
use Rattle.plant.proofs.OneTexts.{tree_once}
use Rattle.plant.proofs.laws.one_tree.Goals as goal

pub returns : goal.returns
returns c = tree_once c.one_words.ensures (λ tree few. c.words_are_in_place.ensures tree (omega (arith, few))) c.words_have_one_tree.ensures

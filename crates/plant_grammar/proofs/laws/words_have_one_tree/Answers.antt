use Rattle.plant_grammar.proofs.OneTree.{one_tree}
use Rattle.plant_grammar.proofs.laws.words_have_one_tree.Goals as goal

pub returns : goal.returns
returns c = one_tree

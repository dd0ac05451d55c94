use Rattle.plant_grammar.proofs.PlacedWords.{tree_placed_before}
use Rattle.plant_grammar.proofs.laws.words_behind_are_in_place.Goals as goal

pub returns : goal.returns
returns c = tree_placed_before

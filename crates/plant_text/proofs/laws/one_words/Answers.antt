use Rattle.plant_text.proofs.OneWords.{words_once}
use Rattle.plant_text.proofs.laws.one_words.Goals as goal

pub returns : goal.returns
returns c = words_once

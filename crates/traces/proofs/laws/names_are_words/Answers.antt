use Rattle.traces.proofs.Names.{name_is_word}
use Rattle.traces.proofs.laws.names_are_words.Goals as goal

pub returns : goal.returns
returns c = λ w named. name_is_word w named

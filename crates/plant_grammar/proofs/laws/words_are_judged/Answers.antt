use Rattle.plant_grammar.proofs.ForgottenFaults.{forgotten}
use Rattle.plant_grammar.proofs.laws.words_are_judged.Goals as words_are_judged_goals

pub returns : words_are_judged_goals.returns
returns c = λ tree. forgotten tree

use Rattle.gate_words.proofs.Fixed.{word_flipped}
use Rattle.gate_words.proofs.int_word.IntWord.flipped.Goals as goal

pub returns-clause-value : goal.returns-clause-value
returns-clause-value c = λ v. word_flipped v c.args.self.now.bits 15 c.negated.result _ c.args.self.now.many (c.negated.ensures v)

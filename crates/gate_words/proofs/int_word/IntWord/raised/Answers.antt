use Rattle.gate_words.specs.Words.{word_value}
use Rattle.gate_words.proofs.Fixed.{signed_flipped, word_lt}
use Rattle.gate_words.proofs.int_word.IntWord.raised.Goals as goal

pub returns-clause-fits : goal.returns-clause-fits
returns-clause-fits c = λ v. word_lt v c.flipped-raised.result 16 c.flipped-raised.ensures.long

pub returns-clause-value : goal.returns-clause-value
returns-clause-value c = λ v.
    let self = c.args.self.now in
    signed_flipped (word_value v self.bits) (word_value v c.flipped-raised.result) (word_lt v self.bits 16 self.many) (c.flipped-raised.ensures.value v)

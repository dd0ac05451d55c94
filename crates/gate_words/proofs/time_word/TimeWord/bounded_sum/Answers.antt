use Rattle.std.proofs.Common.{◌+◌, ◌^◌, min, ap, ◌∙◌}
use Rattle.gate_words.specs.Words.{word_value}
use Rattle.gate_words.proofs.Fixed.{min_lt, same_lt, word_lt}
use Rattle.gate_words.proofs.time_word.TimeWord.bounded_sum.Goals as goal

pub returns : goal.returns
returns c = λ v agrees.
    let sum = word_value v c.args.self.now.bits + word_value v c.args.other.now.bits in
    let bound = c.args.bound.now in
    let most = word_value v bound.bits in
    let added = c.in_ok-word.ensures v agrees in
    let same = ap (word_value v) c.as_slice-bits.ensures.value ∙ added.1 in
    let fits = same_lt (word_value v c.as_slice-bits.result.now) (min sum most) (2 ^ 32) same
    (min_lt sum most (2 ^ 32) (word_lt v bound.bits 32 bound.many)) in
    (added.0, c.in_ok-new.ensures v agrees fits ∙ same)

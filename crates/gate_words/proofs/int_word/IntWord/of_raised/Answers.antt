use Rattle.std.proofs.Common.{subst, ℕ}
use Rattle.std.specs.Int.{cast_signed, w16}
use Rattle.gate_words.specs.Words.{word_value}
use Rattle.gate_words.specs.Values.{IsRaised}
use Rattle.gate_words.proofs.Fixed.{flipped_back, signed_flipped, word_lt}
use Rattle.gate_words.proofs.int_word.IntWord.of_raised.Goals as goal

pub returns : goal.returns
returns c = λ v agrees fits.
    let raised = c.in_ok-raised.raised in
    let bits = c.flipped-bits.result in
    let n = word_value v raised.bits in
    let m = word_value v bits in
    let back = flipped_back 32768 n m (word_lt v raised.bits 16 raised.many) (c.flipped-bits.ensures.value v) in
    let Raised : ℕ → Type 0 = λ k. IsRaised (cast_signed w16 m) k in
    subst Raised (c.in_ok-raised.ensures v agrees fits) (signed_flipped m n (word_lt v bits 16 c.flipped-bits.ensures.long) back)

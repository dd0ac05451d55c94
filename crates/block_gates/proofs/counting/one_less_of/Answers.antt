use Rattle.std.proofs.Common.{◌≡◌, ◌-◌, [], ◌∷◌, ap, ◌∙◌}
use Rattle.gate_words.specs.Words.{number_of, word_value}
use Rattle.gate_words.specs.Values.{int_at}
use Rattle.block_gates.proofs.Counts.{less_lt, one_less_raised}
use Rattle.block_gates.proofs.counting.one_less_of.Goals as goal

pub returns : goal.returns
returns c = λ v agrees.
    let n = word_value v c.raised-raised.result in
    let bits = word_value v c.as_slice-bits.result.now in
    let left = c.in_ok-word.ensures v agrees in
    let on = c.constant-on.ensures v left.0 in
    let is : bits ≡ n - 1 = ap (word_value v) c.as_slice-bits.ensures.value ∙ left.1 ∙ ap (λ t. n - number_of (t ∷ [])) on in (
      left.0,
      one_less_raised (int_at v c.args.count.now) (int_at v c.in_ok-new.new) n bits (c.raised-raised.ensures.value v)
          (c.in_ok-new.ensures v agrees (less_lt bits n 1 is (c.raised-raised.ensures.fits v))) is,
    )

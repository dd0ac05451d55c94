use Rattle.std.proofs.Common.{◌≡◌, ◌<◌, ◌^◌, ap, ◌∙◌, arith, rules}
use Rattle.gate_words.specs.Words.{word_value}
use Rattle.gate_words.proofs.Fixed.{same_lt}
use Rattle.gate_words.proofs.time_word.TimeWord.constant.Goals as goal

pub returns : goal.returns
returns c = λ v agrees.
    let bits = c.as_slice-bits.result.now in
    let wide : c.from.result ≡ c.args.time = omega arith in
    let same : word_value v bits ≡ c.args.time = ap (word_value v) c.as_slice-bits.ensures.value ∙ c.in_ok-word.ensures v agrees ∙ wide in
    let fits : c.args.time < 2 ^ 32 = search rules in
    c.in_ok-new.ensures v agrees (same_lt (word_value v bits) c.args.time (2 ^ 32) same fits) ∙ same

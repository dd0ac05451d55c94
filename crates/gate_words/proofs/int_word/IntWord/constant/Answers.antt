use Rattle.std.proofs.Common.{◌≡◌, ◌<◌, ◌^◌, ap, ◌∙◌, arith, rules}
use Rattle.std.specs.Int.{cast_signed, cast_unsigned, w16}
use Rattle.std.specs.Prelude.{FitsSigned}
use Rattle.std.proofs.lemmas.Int.{to_z-of_z}
use Rattle.gate_words.specs.Words.{word_value}
use Rattle.gate_words.proofs.Fixed.{same_lt}
use Rattle.gate_words.proofs.int_word.IntWord.constant.Goals as goal

pub returns : goal.returns
returns c = λ v agrees.
    let bits = c.as_slice-bits.result.now in
    let n = c.cast_unsigned-unsigned.result in
    let wide : c.from.result ≡ n = omega arith in
    let same : word_value v bits ≡ n = ap (word_value v) c.as_slice-bits.ensures.value ∙ c.in_ok-word.ensures v agrees ∙ wide in
    let fits : n < 2 ^ 16 = search rules in
    let small : FitsSigned w16 c.args.number = search rules in
    let whole = to_z-of_z w16 c.args.number small in
    ap (cast_signed w16) (c.in_ok-new.ensures v agrees (same_lt (word_value v bits) n (2 ^ 16) same fits) ∙ same)
    ∙ ap (cast_signed w16) c.cast_unsigned-unsigned.ensures ∙ ap (λ z. cast_signed w16 (cast_unsigned w16 z)) whole ∙ whole

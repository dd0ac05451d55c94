use Rattle.std.proofs.Common.{◌≡◌, ◌+◌, ◌^◌, length, ap, ◌∙◌}
use Rattle.gate_words.specs.Words.{word_value}
use Rattle.gate_words.proofs.Fixed.{greatest_of, some_number}
use Rattle.gate_words.proofs.differing.greatest.Goals as goal

pub returns : goal.returns
returns c = λ v agrees.
    let none = c.as_slice-off.result.now in
    let word = c.in_ok-word.word.items in
    let bits = c.args.bits in
    let empty : word_value v none ≡ 0 =
    ap (word_value v) c.as_slice-off.ensures.value ∙ c.in_ok-none.ensures.same v agrees (some_number bits) in
    let long : length none ≡ bits = ap length c.as_slice-off.ensures.value ∙ c.in_ok-none.ensures.long in
    let all : word_value v word + word_value v none + 1 ≡ 2 ^ bits = c.in_ok-word.ensures v ∙ ap (λ k. 2 ^ k) long in
    greatest_of (word_value v word) (word_value v none) (2 ^ bits) all empty

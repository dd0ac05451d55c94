use Rattle.std.proofs.Common.{◌≡◌, ◌+◌, ◌^◌, ◌<◌, ℕ, length, min, ap, ◌∙◌, arith}
use Rattle.gate_words.specs.Words.{word_value}
use Rattle.gate_words.proofs.Fixed.{difference_of}
use Rattle.gate_words.proofs.differing.difference.Goals as goal

-- what is at most the greatest number of so many bits fits into them
bounded : (more sum most all : ℕ) → more ≡ min sum most → most + 1 ≡ all → more < all
bounded more sum most all e f = omega (arith, e, f)

pub returns : goal.returns
returns c = λ v agrees.
    let left = c.args.left.now in
    let right = c.args.right.now in
    let all = 2 ^ length left in
    let missing = word_value v c.as_slice-missing_bits.result.now in
    let most = word_value v c.as_slice-most_bits.result.now in
    let more = word_value v c.as_slice-more_bits.result.now in
    let kept = word_value v c.as_slice-kept_bits.result.now in
    let added = c.in_ok-more.ensures v agrees in
    let one : missing + word_value v left + 1 ≡ all =
    ap (λ w. word_value v w + word_value v left + 1) c.as_slice-missing_bits.ensures.value ∙ c.in_ok-missing.ensures v in
    let two : most + 1 ≡ all = ap (λ w. word_value v w + 1) c.as_slice-most_bits.ensures.value ∙ c.in_ok-most.ensures v added.0 in
    let three : more ≡ min (missing + word_value v right) most = ap (word_value v) c.as_slice-more_bits.ensures.value ∙ added.1 in
    let fits : more < all = bounded more (missing + word_value v right) most all three two in
    let four : kept ≡ more = ap (word_value v) c.as_slice-kept_bits.ensures.value ∙ c.in_ok-kept.ensures.same v agrees fits in
    let long : length c.as_slice-kept_bits.result.now ≡ length left = ap length c.as_slice-kept_bits.ensures.value ∙ c.in_ok-kept.ensures.long in
    let five : word_value v c.in_ok-word.word.items + kept + 1 ≡ all = c.in_ok-word.ensures v ∙ ap (λ k. 2 ^ k) long in (
      added.0,
      difference_of (word_value v left) (word_value v right) missing most more kept (word_value v c.in_ok-word.word.items) all one two
          three four five,
    )

use Rattle.std.proofs.Common.{◌≡◌, ◌+◌, length, ap, ◌∙◌, arith}
use Rattle.std.proofs.lemmas.List.{length_push}
use Rattle.gate_words.specs.Words.{word_value}
use Rattle.gate_words.specs.Steps.Bits.{bit_at, low_value}
use Rattle.gate_words.proofs.WordLaws.{enough, resized_more}
use Rattle.gate_words.proofs.numbers.resized.Goals as goal

pub loop-place-preserved : goal.loop-place-preserved
loop-place-preserved c =
    let word = c.loop-place.new.items in
    let s = c.bit-signal.result in
    let n = c.loop-place.place in
    let items = c.in_ok-push.ensures.items in
    let long = c.loop-place.invariant.long in
    record {
      long = ap length items ∙ length_push word s ∙ ap (λ k. k + 1) long;
      same = λ v agrees.
          ap (word_value v) items
          ∙ resized_more v word s (bit_at v c.args.word.now) n long (c.loop-place.invariant.same v agrees) (c.bit-signal.ensures v agrees);
    }

pub returns-clause-long : goal.returns-clause-long
returns-clause-long c = let end : c.loop-place.place ≡ c.args.bits = omega arith in c.loop-place.invariant.long ∙ end

pub returns-clause-same : goal.returns-clause-same
returns-clause-same c = λ v agrees fits.
    let end : c.loop-place.place ≡ c.args.bits = omega arith in
    let word = c.args.word.now in
    c.loop-place.invariant.same v agrees ∙ ap (low_value (bit_at v word)) end ∙ enough v word c.args.bits fits

use Rattle.std.proofs.Common.{◌≡◌, ◌+◌, length, ap, ◌∙◌, arith}
use Rattle.std.proofs.lemmas.List.{length_push}
use Rattle.gate_words.specs.Words.{word_value}
use Rattle.gate_words.specs.Steps.Bits.{bit_at, low_value}
use Rattle.gate_words.proofs.Fixed.{missing_more, missing_all}
use Rattle.gate_words.proofs.differing.complement.Goals as goal

pub loop-signal-preserved : goal.loop-signal-preserved
loop-signal-preserved c =
    let new = c.loop-signal.new.items in
    let word = c.args.word.now in
    let n = c.loop-signal.signal-index in
    let s = c.negated-other.result in
    let items = c.in_ok-push.ensures.items in
    let long = c.loop-signal.invariant.long in
    record {
      long = ap length items ∙ length_push new s ∙ ap (λ k. k + 1) long;
      value = λ v.
          ap (λ ws. word_value v ws + low_value (bit_at v word) (n + 1) + 1) items
          ∙ missing_more v new word n s _ long c.loop-signal-test.true (c.loop-signal.invariant.value v) (c.negated-other.ensures v);
    }

pub returns : goal.returns
returns c = λ v.
    let n = c.loop-signal.signal-index in
    let end : n ≡ length c.args.word.now = omega arith in
    missing_all v c.loop-signal.new.items c.args.word.now n end (c.loop-signal.invariant.value v)

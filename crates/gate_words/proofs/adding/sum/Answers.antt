use Rattle.std.proofs.Common.{◌+◌, ◌≤◌, cond, length, ap, ◌∙◌, arith}
use Rattle.std.proofs.lemmas.List.{length_push}
use Rattle.gates.specs.Signals.{signal_value}
use Rattle.gate_words.specs.Words.{word_value}
use Rattle.gate_words.specs.Steps.Bits.{bit_at, weight}
use Rattle.gate_words.proofs.WordLaws.{sum_all, sum_more}
use Rattle.gate_words.proofs.adding.sum.Goals as goal

pub loop-place-preserved : goal.loop-place-preserved
loop-place-preserved c =
    let word = c.loop-place.word.items in
    let s = c.in_ok-added.added.bit in
    let n = c.loop-place.place in
    let items = c.in_ok-push.ensures.items in
    let long = c.loop-place.invariant.long in
    record {
      long = ap length items ∙ length_push word s ∙ ap (λ k. k + 1) long;
      built = λ v agrees.
          let new = c.in_ok-added.ensures v agrees in
          let before = c.loop-place.invariant.built v new.0 in (
            before.0,
            ap (λ ws. word_value v ws + cond (signal_value v c.in_ok-added.added.carry) (weight (n + 1)) 0) items
                ∙ sum_more v word s (bit_at v c.args.left.now) (bit_at v c.args.right.now) n (signal_value v c.loop-place.carry)
                (signal_value v c.in_ok-added.added.carry) long before.1 new.1,
          );
    }

pub returns : goal.returns
returns c = λ v agrees.
    let is = c.loop-place.invariant.built v agrees in
    let word = c.loop-place.word.items in
    let n = c.loop-place.place in
    let one : length c.args.left.now ≤ n = omega (arith, c.longer-places.ensures.of_left, c.loop-place-test.false) in
    let two : length c.args.right.now ≤ n = omega (arith, c.longer-places.ensures.of_right, c.loop-place-test.false) in (
      is.0,
      ap (word_value v) c.in_ok-push-2.ensures.items
          ∙ sum_all v word c.args.left.now c.args.right.now c.loop-place.carry n c.loop-place.invariant.long one two is.1,
    )

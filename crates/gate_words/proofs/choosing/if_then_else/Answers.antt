use Rattle.std.proofs.Common.{◌+◌, ◌≤◌, length, ap, ◌∙◌, arith}
use Rattle.std.proofs.lemmas.List.{length_push}
use Rattle.gates.specs.Signals.{signal_value}
use Rattle.gate_words.specs.Words.{word_value}
use Rattle.gate_words.proofs.WordLaws.{choice_all, choice_more}
use Rattle.gate_words.proofs.choosing.if_then_else.Goals as goal

pub loop-place-preserved : goal.loop-place-preserved
loop-place-preserved c =
    let word = c.loop-place.word.items in
    let s = c.in_ok-chosen.chosen in
    let n = c.loop-place.place in
    let items = c.in_ok-push.ensures.items in
    let long = c.loop-place.invariant.long in
    record {
      long = ap length items ∙ length_push word s ∙ ap (λ k. k + 1) long;
      built = λ v agrees.
          let new = c.in_ok-chosen.ensures v agrees in
          let before = c.loop-place.invariant.built v new.0 in (
            before.0,
            ap (word_value v) items
                ∙ choice_more v word c.args.first.now c.args.second.now c.args.condition s n long before.1 new.1,
          );
    }

pub returns : goal.returns
returns c = λ v agrees.
    let is = c.loop-place.invariant.built v agrees in
    let n = c.loop-place.place in
    let one : length c.args.first.now ≤ n = omega (arith, c.longer-places.ensures.of_left, c.loop-place-test.false) in
    let two : length c.args.second.now ≤ n = omega (arith, c.longer-places.ensures.of_right, c.loop-place-test.false) in
    (is.0, is.1 ∙ choice_all v (signal_value v c.args.condition) c.args.first.now c.args.second.now n one two)

use Rattle.std.proofs.Common.{◌≤◌, length, ◌∙◌, arith}
use Rattle.gates.specs.Signals.{signal_value}
use Rattle.gate_words.specs.Steps.Bits.{bit_at}
use Rattle.gate_words.proofs.WordLaws.{at_most_all, at_most_more}
use Rattle.gate_words.proofs.comparing.at_most.Goals as goal

pub loop-place-init : goal.loop-place-init
loop-place-init c = λ v agrees. (agrees, c.constant-is_at_most.ensures v agrees)

pub loop-place-preserved : goal.loop-place-preserved
loop-place-preserved c = λ v agrees.
    let new = c.in_ok-is_at_most.ensures v agrees in
    let before = c.loop-place.invariant v new.0 in (
      before.0,
      at_most_more (bit_at v c.args.left.now) (bit_at v c.args.right.now) c.loop-place.place (signal_value v c.loop-place.is_at_most)
          (signal_value v c.in_ok-is_at_most.is_at_most) before.1 new.1,
    )

pub returns : goal.returns
returns c = λ v agrees.
    let is = c.loop-place.invariant v agrees in
    let n = c.loop-place.place in
    let one : length c.args.left.now ≤ n = omega (arith, c.longer-places.ensures.of_left, c.loop-place-test.false) in
    let two : length c.args.right.now ≤ n = omega (arith, c.longer-places.ensures.of_right, c.loop-place-test.false) in (is.0, is.1 ∙ at_most_all v c.args.left.now c.args.right.now n one two)

use Rattle.std.proofs.Common.{◌≤◌, length, ◌∙◌, arith}
use Rattle.gates.specs.Signals.{signal_value}
use Rattle.gate_words.specs.Steps.Bits.{bit_at}
use Rattle.gate_words.proofs.WordLaws.{equal_all, equal_more}
use Rattle.gate_words.proofs.comparing.equal.Goals as goal

pub loop-place-init : goal.loop-place-init
loop-place-init c = λ v agrees. (agrees, c.constant-so_far.ensures v agrees)

pub loop-place-preserved : goal.loop-place-preserved
loop-place-preserved c = λ v agrees.
    let new = c.in_ok-so_far.ensures v agrees in
    let same = c.in_ok-same.ensures v new.0 in
    let before = c.loop-place.invariant v same.0 in (
      before.0,
      equal_more (bit_at v c.args.left.now) (bit_at v c.args.right.now) c.loop-place.place (signal_value v c.loop-place.so_far)
          (signal_value v c.in_ok-same.same) (signal_value v c.in_ok-so_far.so_far) before.1 same.1 new.1,
    )

pub returns : goal.returns
returns c = λ v agrees.
    let is = c.loop-place.invariant v agrees in
    let n = c.loop-place.place in
    let one : length c.args.left.now ≤ n = omega (arith, c.longer-places.ensures.of_left, c.loop-place-test.false) in
    let two : length c.args.right.now ≤ n = omega (arith, c.longer-places.ensures.of_right, c.loop-place-test.false) in (is.0, is.1 ∙ equal_all v c.args.left.now c.args.right.now n one two)

use Rattle.std.proofs.Common.{◌+◌, ◌<◌, ◌≤◌, cond, length, take, ap, ◌∙◌, arith}
use Rattle.std.proofs.lemmas.List.{length_push, take_all}
use Rattle.gates.specs.Signals.{signal_value}
use Rattle.scan_gates.specs.Encoded.{bits_at}
use Rattle.scan_gates.proofs.StateBits.{chosen_more}
use Rattle.scan_gates.proofs.states.chosen_signals.Goals as goal

pub loop-place-preserved : goal.loop-place-preserved
loop-place-preserved c =
    let new = c.loop-place.new.items in
    let k = c.loop-place.place in
    let s = c.in_ok-one.one in
    let items = c.in_ok-push.ensures.items in
    let lt : k < length c.args.first.now = omega arith in
    let less : k < length c.args.second.now = omega arith in
    record {
      long = ap length items ∙ length_push new s ∙ ap (λ n. n + 1) c.loop-place.invariant.long;
      built = λ v agrees.
          let one = c.in_ok-one.ensures v agrees in
          let was = c.loop-place.invariant.built v one.0 in (
            was.0,
            ap (bits_at v) items
                ∙ chosen_more v (signal_value v c.args.condition) c.args.first.now c.args.second.now new k _ _ s lt less was.1 one.1,
          );
    }

pub returns-clause-built : goal.returns-clause-built
returns-clause-built c = λ v agrees.
    let is = c.loop-place.invariant.built v agrees in
    let k = c.loop-place.place in
    let first = c.args.first.now in
    let second = c.args.second.now in
    let end : length first ≤ k = omega arith in
    let too : length second ≤ k = omega arith in
    let on = signal_value v c.args.condition in (
      is.0,
      is.1 ∙ ap (λ l. cond on (bits_at v l) (bits_at v (take k second))) (take_all k first end)
          ∙ ap (λ l. cond on (bits_at v first) (bits_at v l)) (take_all k second too),
    )

use Rattle.std.proofs.Common.{◌≡◌, ap, ◌∙◌, cond, not}
use Rattle.gates.specs.Signals.{signal_value}
use Rattle.gate_words.specs.Steps.Bits.{bit_at}
use Rattle.gate_words.proofs.Built.{built_by}
use Rattle.gate_words.proofs.comparing.at_most_by_bit.Goals as goal

pub returns : goal.returns
returns c =
    let same = c.in_ok-same.same in
    let r = c.bit-of_right.result in
    let before = c.args.before in
    let left = c.args.left.now in
    let right = c.args.right.now in
    let k = c.args.place in
    built_by c.args.gates.now c.is_same_bit.new.gates c.if_then_else.new.self
    (λ s v. signal_value v s ≡ cond (signal_value v same) (signal_value v before) (signal_value v r))
    (λ s v.
    signal_value v s
    ≡ cond (cond (bit_at v left k) (bit_at v right k) (not (bit_at v right k))) (signal_value v before) (bit_at v right k))
    (λ v agrees. (c.in_ok-same.ensures v agrees).0)
    (λ s v agrees e.
    e ∙ ap (λ b. cond b (signal_value v before) (signal_value v r)) (c.in_ok-same.ensures v agrees).1
    ∙ ap (λ b. cond (cond (bit_at v left k) (bit_at v right k) (not (bit_at v right k))) (signal_value v before) b)
    (c.bit-of_right.ensures v agrees))
    c.if_then_else.result c.if_then_else.ensures

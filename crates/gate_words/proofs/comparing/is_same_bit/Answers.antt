use Rattle.std.proofs.Common.{◌≡◌, ap, ◌∙◌, cond, not}
use Rattle.gates.specs.Signals.{signal_value}
use Rattle.gate_words.specs.Steps.Bits.{bit_at}
use Rattle.gate_words.proofs.Built.{built_by}
use Rattle.gate_words.proofs.comparing.is_same_bit.Goals as goal

pub returns : goal.returns
returns c =
    let l = c.bit-of_left.result in
    let r = c.bit-of_right.result in
    let left = c.args.left.now in
    let right = c.args.right.now in
    let k = c.args.place in
    built_by c.args.gates.now c.args.gates.now c.equal.new.self
    (λ s v. signal_value v s ≡ cond (signal_value v l) (signal_value v r) (not (signal_value v r)))
    (λ s v. signal_value v s ≡ cond (bit_at v left k) (bit_at v right k) (not (bit_at v right k)))
    (λ v agrees. agrees)
    (λ s v agrees e.
    e ∙ ap (λ b. cond b (signal_value v r) (not (signal_value v r))) (c.bit-of_left.ensures v agrees)
    ∙ ap (λ b. cond (bit_at v left k) b (not b)) (c.bit-of_right.ensures v agrees))
    c.equal.result c.equal.ensures

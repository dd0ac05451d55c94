use Rattle.std.proofs.Common.{◌≡◌, ◌+◌, ◌*◌, ap, ◌∙◌}
use Rattle.gates.specs.Signals.{signal_value}
use Rattle.gate_words.specs.Steps.Bits.{bit_at, digit}
use Rattle.gate_words.specs.declared.adding.Added.{Added}
use Rattle.gate_words.proofs.Built.{built_by}
use Rattle.gate_words.proofs.adding.add_bits.Goals as goal

pub returns : goal.returns
returns c =
    let l = c.bit-of_left.result in
    let r = c.bit-of_right.result in
    let left = c.args.left.now in
    let right = c.args.right.now in
    let carry = c.args.carry in
    let k = c.args.place in
    built_by c.args.gates.now c.args.gates.now c.add_three.new.gates
    (λ (a : Added) v.
    digit (signal_value v a.bit) + 2 * digit (signal_value v a.carry)
    ≡ digit (signal_value v l) + digit (signal_value v r) + digit (signal_value v carry))
    (λ (a : Added) v.
    digit (signal_value v a.bit) + 2 * digit (signal_value v a.carry)
    ≡ digit (bit_at v left k) + digit (bit_at v right k) + digit (signal_value v carry))
    (λ v agrees. agrees)
    (λ a v agrees e.
    e ∙ ap (λ b. digit b + digit (signal_value v r) + digit (signal_value v carry)) (c.bit-of_left.ensures v agrees)
    ∙ ap (λ b. digit (bit_at v left k) + digit b + digit (signal_value v carry)) (c.bit-of_right.ensures v agrees))
    c.add_three.result c.add_three.ensures

use Rattle.std.proofs.Common.{◌≡◌, ap, ◌∙◌, cond}
use Rattle.gates.specs.Signals.{signal_value}
use Rattle.gate_words.specs.Steps.Bits.{bit_at}
use Rattle.gate_words.proofs.Built.{built_by}
use Rattle.gate_words.proofs.choosing.chosen_bit.Goals as goal

pub returns : goal.returns
returns c =
    let a = c.bit-of_first.result in
    let b = c.bit-of_second.result in
    let on = c.args.condition in
    let first = c.args.first.now in
    let second = c.args.second.now in
    let k = c.args.place in
    built_by c.args.gates.now c.args.gates.now c.if_then_else.new.self
    (λ s v. signal_value v s ≡ cond (signal_value v on) (signal_value v a) (signal_value v b))
    (λ s v. signal_value v s ≡ cond (signal_value v on) (bit_at v first k) (bit_at v second k))
    (λ v agrees. agrees)
    (λ s v agrees e.
    e ∙ ap (λ x. cond (signal_value v on) x (signal_value v b)) (c.bit-of_first.ensures v agrees)
    ∙ ap (λ x. cond (signal_value v on) (bit_at v first k) x) (c.bit-of_second.ensures v agrees))
    c.if_then_else.result c.if_then_else.ensures

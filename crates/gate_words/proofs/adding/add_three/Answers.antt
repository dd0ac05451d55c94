use Rattle.gates.specs.Signals.{signal_value}
use Rattle.gate_words.proofs.BitLaws.{three_added}
use Rattle.gate_words.proofs.adding.add_three.Goals as goal

pub returns : goal.returns
returns c = λ v agrees.
    let third = c.in_ok-carry.ensures v agrees in
    let second = c.in_ok-bit.ensures v third.0 in
    let first = c.in_ok-differ.ensures v second.0 in (
      first.0,
      three_added (signal_value v c.args.one) (signal_value v c.args.other) (signal_value v c.args.third)
          (signal_value v c.in_ok-differ.differ) (signal_value v c.in_ok-bit.bit) (signal_value v c.in_ok-carry.carry) first.1
          second.1 third.1,
    )

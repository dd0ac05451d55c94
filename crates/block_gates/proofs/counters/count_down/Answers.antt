use Rattle.std.proofs.Common.{cond, ap, ◌∙◌}
use Rattle.gates.specs.Signals.{signal_value}
use Rattle.gate_words.specs.Values.{int_at}
use Rattle.std_blocks.specs.Blocks.{one_less}
use Rattle.block_gates.proofs.counters.count_down.Goals as goal

pub returns : goal.returns
returns c = λ v agrees.
    let new = c.in_ok-new.ensures v agrees in
    let counted = c.in_ok-counted.ensures v new.0 in
    let less = c.in_ok-less.ensures v counted.0 in
    let down = c.in_ok-down.ensures v less.0 in
    let count = int_at v c.args.counter.now.count in
    let pins = c.args.pins.now in (
      down.0,
      new.1
          ∙ ap (λ z. cond (signal_value v pins.second) (int_at v pins.int) z)
          (counted.1 ∙ ap (λ z. cond (signal_value v c.in_ok-down.down) z count) less.1
          ∙ ap (λ t. cond t (one_less count) count) down.1),
    )

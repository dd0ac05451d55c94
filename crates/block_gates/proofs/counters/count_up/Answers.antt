use Rattle.std.proofs.Common.{cond, pos, ap, ◌∙◌}
use Rattle.gates.specs.Signals.{signal_value}
use Rattle.gate_words.specs.Values.{int_at}
use Rattle.std_blocks.specs.Blocks.{one_more}
use Rattle.block_gates.proofs.counters.count_up.Goals as goal

pub returns : goal.returns
returns c = λ v agrees.
    let new = c.in_ok-new.ensures v agrees in
    let counted = c.in_ok-counted.ensures v new.0 in
    let more = c.in_ok-more.ensures v counted.0 in
    let up = c.in_ok-up.ensures v more.0 in
    let count = int_at v c.args.counter.now.count in
    let reset = signal_value v c.args.pins.now.second in (
      up.0,
      new.1 ∙ ap (λ z. cond reset z (int_at v c.in_ok-counted.counted)) (c.zero-none.ensures v new.0)
          ∙ ap (λ z. cond reset (pos 0) z)
          (counted.1 ∙ ap (λ z. cond (signal_value v c.in_ok-up.up) z count) more.1 ∙ ap (λ t. cond t (one_more count) count) up.1),
    )

use Rattle.std.proofs.Common.{◌&&◌, cond, ap, ◌∙◌}
use Rattle.gates.specs.Signals.{signal_value}
use Rattle.gate_words.specs.Values.{int_at}
use Rattle.std_blocks.specs.Blocks.{one_more}
use Rattle.block_gates.proofs.counters.count_edges.Goals as goal

pub returns : goal.returns
returns c = λ v agrees.
    let new = c.in_ok-new.ensures v agrees in
    let by_up = c.in_ok-by_up.ensures v new.0 in
    let by_down = c.in_ok-by_down.ensures v by_up.0 in
    let less = c.in_ok-less.ensures v by_down.0 in
    let more = c.in_ok-more.ensures v less.0 in
    let both = c.in_ok-both.ensures v more.0 in
    let count = int_at v c.args.count.now in
    let up = signal_value v c.args.up in
    let down = signal_value v c.args.down in (
      both.0,
      new.1 ∙ ap (λ t. cond t count (int_at v c.in_ok-by_up.by_up)) both.1
          ∙ ap (λ z. cond (up && down) count z)
          (by_up.1 ∙ ap (λ z. cond up z (int_at v c.in_ok-by_down.by_down)) more.1
          ∙ ap (λ z. cond up (one_more count) z) (by_down.1 ∙ ap (λ z. cond down z count) less.1)),
    )

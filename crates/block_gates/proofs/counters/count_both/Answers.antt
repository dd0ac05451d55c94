use Rattle.std.proofs.Common.{Bool, ◌&&◌, cond, ℤ, pos, ap, ◌∙◌}
use Rattle.gates.specs.Signals.{signal_value}
use Rattle.gate_words.specs.Values.{int_at}
use Rattle.std_blocks.specs.Blocks.{one_less, one_more, rises}
use Rattle.block_gates.proofs.counters.count_both.Goals as goal

pub returns : goal.returns
returns c = λ v agrees.
    let new = c.in_ok-new.ensures v agrees in
    let loaded = c.in_ok-loaded.ensures v new.0 in
    let counted = c.in_ok-counted.ensures v loaded.0 in
    let down = c.in_ok-down.ensures v counted.0 in
    let up = c.in_ok-up.ensures v down.0 in
    let counter = c.args.counter.now in
    let pins = c.args.pins.now in
    let count = int_at v counter.count in
    let third = signal_value v pins.third in
    let by_edges : Bool → Bool → ℤ = λ a b. cond (a && b) count (cond a (one_more count) (cond b (one_less count) count)) in (
      up.0,
      new.1 ∙ ap (λ z. cond third z (int_at v c.in_ok-loaded.loaded)) (c.zero-none.ensures v new.0)
          ∙ ap (λ z. cond third (pos 0) z)
          (loaded.1
          ∙ ap (λ z. cond (signal_value v pins.fourth) (int_at v pins.int) z)
          (counted.1 ∙ ap (λ t. by_edges t (signal_value v c.in_ok-down.down)) up.1
          ∙ ap (by_edges (rises (signal_value v counter.last_up) (signal_value v pins.first))) down.1)),
    )

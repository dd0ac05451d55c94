use Rattle.std.proofs.Common.{false, pos, ap, ◌∙◌}
use Rattle.std.specs.Int.Signed.{le_z}
use Rattle.gates.specs.Signals.{signal_value}
use Rattle.gate_words.specs.Values.{int_at}
use Rattle.std_blocks.specs.declared.block_type.BlockType.TheVariants.{CTD}
use Rattle.block_gates.specs.Blocks.{counter_state, shown}
use Rattle.block_gates.proofs.counters.step_down.Goals as goal

pub returns : goal.returns
returns c = λ v agrees.
    let q = c.in_ok-q.ensures v agrees in
    let count = c.in_ok-count.ensures v q.0 in
    let value = int_at v c.in_ok-count.count in (
      count.0,
      (
        ap (λ z. counter_state CTD false (signal_value v c.args.pins.now.first) z) count.1,
        ap (λ t. shown t false value 0) (q.1 ∙ ap (λ z. le_z value z) (c.zero-none.ensures v q.0))
            ∙ ap (λ z. shown (le_z z (pos 0)) false z 0) count.1,
      ),
    )

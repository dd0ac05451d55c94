use Rattle.std.proofs.Common.{false, ap, ◌∙◌}
use Rattle.std.specs.Int.Signed.{le_z}
use Rattle.gates.specs.Signals.{signal_value}
use Rattle.gate_words.specs.Values.{int_at}
use Rattle.std_blocks.specs.declared.block_type.BlockType.TheVariants.{CTU}
use Rattle.block_gates.specs.Blocks.{counter_state, shown}
use Rattle.block_gates.proofs.counters.step_up.Goals as goal

pub returns : goal.returns
returns c = λ v agrees.
    let q = c.in_ok-q.ensures v agrees in
    let count = c.in_ok-count.ensures v q.0 in
    let pins = c.args.pins.now in (
      count.0,
      (
        ap (λ z. counter_state CTU (signal_value v pins.first) false z) count.1,
        ap (λ t. shown t false (int_at v c.in_ok-count.count) 0) q.1 ∙ ap (λ z. shown (le_z (int_at v pins.int) z) false z 0) count.1,
      ),
    )

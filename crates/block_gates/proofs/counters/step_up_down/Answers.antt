use Rattle.std.proofs.Common.{pos, ap, ◌∙◌}
use Rattle.std.specs.Int.Signed.{le_z}
use Rattle.gates.specs.Signals.{signal_value}
use Rattle.gate_words.specs.Values.{int_at}
use Rattle.std_blocks.specs.declared.block_type.BlockType.TheVariants.{CTUD}
use Rattle.block_gates.specs.Blocks.{counter_state, shown}
use Rattle.block_gates.proofs.counters.step_up_down.Goals as goal

pub returns : goal.returns
returns c = λ v agrees.
    let qd = c.in_ok-qd.ensures v agrees in
    let qu = c.in_ok-qu.ensures v qd.0 in
    let count = c.in_ok-count.ensures v qu.0 in
    let value = int_at v c.in_ok-count.count in
    let pins = c.args.pins.now in
    let preset = int_at v pins.int in (
      count.0,
      (
        ap (λ z. counter_state CTUD (signal_value v pins.first) (signal_value v pins.second) z) count.1,
        ap (λ t. shown t (signal_value v c.in_ok-qd.qd) value 0) qu.1
            ∙ ap (λ t. shown (le_z preset value) t value 0) (qd.1 ∙ ap (λ z. le_z value z) (c.zero-none.ensures v qu.0))
            ∙ ap (λ z. shown (le_z preset z) (le_z z (pos 0)) z 0) count.1,
      ),
    )

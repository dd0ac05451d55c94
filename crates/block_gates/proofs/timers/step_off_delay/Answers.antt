use Rattle.std.proofs.Common.{◌≡◌, false, pos}
use Rattle.gates.specs.Signals.{signal_value}
use Rattle.gate_words.specs.Values.{time_at}
use Rattle.std_blocks.specs.declared.block_type.BlockType.TheVariants.{TOF}
use Rattle.std_blocks.specs.Blocks.{off_delay_output, off_delay_time}
use Rattle.block_gates.specs.declared.instance.EncodedInstance.TheVariants as block
use Rattle.block_gates.specs.Blocks.{pins_at, shown, state_at, timer_state}
use Rattle.block_gates.proofs.Both.{same_both}
use Rattle.block_gates.proofs.timers.step_off_delay.Goals as goal

pub returns : goal.returns
returns c = λ v agrees.
    let on = c.in_ok-on.ensures v agrees in
    let elapsed = c.in_ok-elapsed.ensures v on.0 in
    let pins = c.args.pins.now in
    let s = state_at v (block.TOF c.args.timer.now) in
    let dt = time_at v c.args.dt.now in
    let new = signal_value v c.in_ok-on.on in
    let time = time_at v c.in_ok-elapsed.elapsed in
    let output = off_delay_output s (pins_at v pins) dt in
    let later = off_delay_time s (pins_at v pins) dt in
    let is : new ≡ output = on.1 dt elapsed.1 in (
      elapsed.0,
      (
        same_both (timer_state TOF (signal_value v pins.first)) new output time later is elapsed.1,
        same_both (λ t k. shown t false (pos 0) k) new output time later is elapsed.1,
      ),
    )

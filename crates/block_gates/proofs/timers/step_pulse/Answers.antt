use Rattle.std.proofs.Common.{◌≡◌, ◌&&◌, ◌||◌, false, ltb, pos, ap, ◌∙◌}
use Rattle.gates.specs.Signals.{signal_value}
use Rattle.gate_words.specs.Values.{time_at}
use Rattle.std_blocks.specs.declared.block_type.BlockType.TheVariants.{TP}
use Rattle.std_blocks.specs.Blocks.{pulse_begins, pulse_output, pulse_time}
use Rattle.block_gates.specs.declared.instance.EncodedInstance.TheVariants as block
use Rattle.block_gates.specs.Blocks.{pins_at, shown, state_at, timer_state}
use Rattle.block_gates.proofs.Both.{same_both}
use Rattle.block_gates.proofs.timers.step_pulse.Goals as goal

pub returns : goal.returns
returns c = λ v agrees.
    let on = c.in_ok-on.ensures v agrees in
    let runs = c.in_ok-runs.ensures v on.0 in
    let pulses = c.in_ok-pulses.ensures v runs.0 in
    let begins = c.in_ok-begins.ensures v pulses.0 in
    let elapsed = c.in_ok-elapsed.ensures v begins.0 in
    let timer = c.args.timer.now in
    let pins = c.args.pins.now in
    let s = state_at v (block.TP timer) in
    let dt = time_at v c.args.dt.now in
    let new = signal_value v c.in_ok-on.on in
    let time = time_at v c.in_ok-elapsed.elapsed in
    let preset = time_at v pins.time in
    let pulsing = signal_value v timer.on || pulse_begins s (pins_at v pins) in
    let output = pulse_output s (pins_at v pins) dt in
    let later = pulse_time s (pins_at v pins) dt in
    let is : new ≡ output =
    on.1 ∙ ap (λ t. t && signal_value v c.in_ok-runs.runs) (pulses.1 ∙ ap (λ t. signal_value v timer.on || t) begins.1)
    ∙ ap (λ t. pulsing && t) (runs.1 ∙ ap (λ k. ltb k preset) elapsed.1) in (
      elapsed.0,
      (
        same_both (timer_state TP (signal_value v pins.first)) new output time later is elapsed.1,
        same_both (λ t k. shown t false (pos 0) k) new output time later is elapsed.1,
      ),
    )

use Rattle.std.proofs.Common.{◌||◌, cond, ap, ◌∙◌}
use Rattle.gates.specs.Signals.{signal_value}
use Rattle.gate_words.specs.Values.{time_at}
use Rattle.std_blocks.specs.Blocks.{pulse_begins, run_on}
use Rattle.block_gates.specs.declared.instance.EncodedInstance.TheVariants as block
use Rattle.block_gates.specs.Blocks.{pins_at, state_at}
use Rattle.block_gates.proofs.timing.time_pulse.Goals as goal

pub returns : goal.returns
returns c = λ v agrees.
    let new = c.in_ok-new.ensures v agrees in
    let more = c.in_ok-more.ensures v new.0 in
    let kept = c.in_ok-kept.ensures v more.0 in
    let rests = c.in_ok-rests.ensures v kept.0 in
    let begins = c.in_ok-begins.ensures v rests.0 in
    let timer = c.args.timer.now in
    let pins = c.args.pins.now in
    let on = signal_value v timer.on in
    let elapsed = time_at v timer.elapsed in
    let run = run_on (time_at v pins.time) elapsed (time_at v c.args.dt.now) in
    let starts = pulse_begins (state_at v (block.TP timer)) (pins_at v pins) in (
      begins.0,
      new.1 ∙ ap (λ k. cond on k (time_at v c.in_ok-kept.kept)) more.1
          ∙ ap (λ k. cond on run k)
          (kept.1 ∙ ap (λ k. cond (signal_value v c.in_ok-rests.rests) k elapsed) (c.zero-none.ensures v kept.0)
          ∙ ap (λ t. cond t 0 elapsed)
          (rests.1 ∙ ap (λ t. t || signal_value v c.negated-off.result) begins.1 ∙ ap (λ t. starts || t) (c.negated-off.ensures v))),
    )

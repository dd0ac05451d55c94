use Rattle.std.proofs.Common.{cond, ap, ◌∙◌}
use Rattle.gates.specs.Signals.{signal_value}
use Rattle.gate_words.specs.Values.{time_at}
use Rattle.std_blocks.specs.Blocks.{run_on}
use Rattle.block_gates.proofs.timing.time_off_delay.Goals as goal

pub returns : goal.returns
returns c = λ v agrees.
    let new = c.in_ok-new.ensures v agrees in
    let later = c.in_ok-later.ensures v new.0 in
    let more = c.in_ok-more.ensures v later.0 in
    let begins = c.in_ok-begins.ensures v more.0 in
    let timer = c.args.timer.now in
    let on = signal_value v timer.on in
    let elapsed = time_at v timer.elapsed in
    let run = run_on (time_at v c.args.pins.now.time) elapsed (time_at v c.args.dt.now) in
    let at_begin = signal_value v c.in_ok-begins.begins in (
      begins.0,
      new.1 ∙ ap (λ k. cond at_begin k (time_at v c.in_ok-later.later)) (c.zero-none.ensures v new.0)
          ∙ ap (λ k. cond at_begin 0 k) (later.1 ∙ ap (λ k. cond on k elapsed) more.1)
          ∙ ap (λ t. cond t 0 (cond on run elapsed)) begins.1,
    )

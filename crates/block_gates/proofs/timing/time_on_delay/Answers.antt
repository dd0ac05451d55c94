use Rattle.std.proofs.Common.{cond, ap, ◌∙◌}
use Rattle.gates.specs.Signals.{signal_value}
use Rattle.gate_words.specs.Values.{time_at}
use Rattle.std_blocks.specs.Blocks.{run_on}
use Rattle.block_gates.proofs.timing.time_on_delay.Goals as goal

pub returns : goal.returns
returns c = λ v agrees.
    let new = c.in_ok-new.ensures v agrees in
    let more = c.in_ok-more.ensures v new.0 in
    let runs = c.in_ok-runs.ensures v more.0 in
    let on = signal_value v c.in_ok-runs.runs in
    let later = run_on (time_at v c.args.pins.now.time) (time_at v c.args.timer.now.elapsed) (time_at v c.args.dt.now) in (
      runs.0,
      new.1 ∙ ap (λ k. cond on k (time_at v c.zero-none.result)) more.1 ∙ ap (λ k. cond on later k) (c.zero-none.ensures v new.0)
          ∙ ap (λ t. cond t later 0) runs.1,
    )

use Rattle.std.proofs.Common.{◌&&◌, true, cond, ltb, ap, ◌∙◌}
use Rattle.gates.specs.Signals.{signal_value}
use Rattle.gate_words.specs.Values.{time_at}
use Rattle.block_gates.proofs.Both.{or_is}
use Rattle.block_gates.proofs.timers.output_off_delay.Goals as goal

pub returns : goal.returns
returns c = λ v agrees.
    let on = c.in_ok-on.ensures v agrees in
    let behind = c.in_ok-behind.ensures v on.0 in
    let goes_on = c.in_ok-goes_on.ensures v behind.0 in
    let runs = c.in_ok-runs.ensures v goes_on.0 in
    let lasts = c.in_ok-lasts.ensures v runs.0 in
    let timer = c.args.timer.now in
    let pins = c.args.pins.now in
    let first = signal_value v pins.first in
    let last = signal_value v timer.last_in in
    let preset = time_at v pins.time in (
      lasts.0,
      λ dt elapsed.
          on.1 ∙ or_is first (signal_value v c.in_ok-behind.behind)
          ∙ ap (λ t. cond first true t)
          (behind.1
          ∙ ap (λ t. cond last t (signal_value v c.in_ok-goes_on.goes_on)) (lasts.1 ∙ ap (λ k. ltb k preset) (c.zero-none.ensures v lasts.0))
          ∙ ap (λ t. cond last (ltb 0 preset) t)
          (goes_on.1 ∙ ap (λ t. signal_value v timer.on && t) (runs.1 ∙ ap (λ k. ltb k preset) elapsed))),
    )

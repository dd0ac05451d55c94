-- One take more, before those that were noted.
use Rattle.std.proofs.Common.{◌≡◌, ◌∙◌, ℕ, ◌+◌, ◌-◌, ◌<◌, cond, Some, drop, length, ap, sym, arith}
use Rattle.evaluation.specs.declared.take.Take.{Take}
use Rattle.evaluation.specs.Last.{same_task}
use Rattle.world.specs.Steps.Tables.{told_in, told_with}
use Rattle.world.proofs.Schedules.Tables.{told-more}
use Rattle.world.proofs.schedule.last_takes.note_takes.Goals as goal

pub loop-i-preserved : goal.loop-i-preserved
loop-i-preserved c = λ q.
    let takes = c.args.takes.now in
    let take : Take = c.index-takes-count.result in
    let place : ℕ = length takes - 1 - c.loop-i.i in
    let old = told_in c.args.rows.now.items q in
    let here : length takes - (c.loop-i.i + 1) ≡ place = omega arith in
    let behind : length takes - c.loop-i.i ≡ place + 1 = omega (arith, c.loop-i-test.true) in
    c.in_ok-note_row.ensures q
    ∙ ap (cond (same_task take.producer q) (Some (c.args.incarnation, take.from))) (c.loop-i.invariant q ∙ ap (λ n. told_with c.args.incarnation (drop n takes) q old) behind)
    ∙ sym (ap (λ n. told_with c.args.incarnation (drop n takes) q old) here ∙ told-more c.args.incarnation takes place take (omega (arith, c.loop-i-test.true)) (sym c.index-takes-count.is) q old)

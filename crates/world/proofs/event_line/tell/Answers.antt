use Rattle.std.proofs.Common.{◌++◌, List, ℕ, ap, ◌∙◌}
use Rattle.evaluation.specs.Meaning.{Evaluated}
use Rattle.plant.specs.PlantValue.{PlantValue}
use Rattle.world.specs.RunText.{refused_line}
use Rattle.world.specs.Steps.Telling.{done_line}
use Rattle.world.proofs.Telling.{told_done, told_refused, on_ok_so}
use Rattle.world.proofs.event_line.tell.Goals as goal

pub returns-in-Ok : goal.returns-in-Ok
returns-in-Ok c =
    let new = c.step-answer.new.self in
    on_ok_so c.push_done.result c.push_done.ensures (λ made. told_done c.args.world.now new c.args.number c.args.event.now c.in-Ok.done _ c.in-Ok.ensures.done c.log-log.ensures.run (
    made ∙ ap (λ (l : List ℕ). l ++ done_line c.plant.result.now c.log-log.result.now c.args.event.now c.in-Ok.done) c.clear.ensures.bytes
    ∙ ap (λ (p : PlantValue). done_line p c.log-log.result.now c.args.event.now c.in-Ok.done) c.plant.ensures
    ∙ ap (λ (l : List Evaluated). done_line new.setting.plant l c.args.event.now c.in-Ok.done) c.log-log.ensures.value))

pub returns-in_default : goal.returns-in_default
returns-in_default c =
    let new = c.step-answer.new.self in
    on_ok_so c.push_refused.result c.push_refused.ensures (λ made. told_refused c.args.world.now new c.args.number c.args.event.now c.in-Err.cause _ c.in-Err.ensures.err c.in_default.not-Memory c.in-Err.ensures.cause (c.in-Err.ensures.refused c.in_default.not-Memory) c.log-log.ensures.run (
    made ∙ ap (λ (l : List ℕ). l ++ refused_line c.args.number c.in-Err.cause) c.clear.ensures.bytes))

use Rattle.std.proofs.Common.{◌++◌, List, ℕ, ap, ◌∙◌}
use Rattle.evaluation.specs.Meaning.{Evaluated}
use Rattle.plant.specs.PlantValue.{PlantValue}
use Rattle.world.specs.Steps.Telling.{done_line}
use Rattle.world.proofs.Telling.{on_ok_so, told_done}
use Rattle.tested_schedules.proofs.testing.Testing.tell.Goals as goal

pub returns-in-Ok-clause-told : goal.returns-in-Ok-clause-told
returns-in-Ok-clause-told c =
    let new = c.step.new.self in
    on_ok_so c.push_done.result c.push_done.ensures (λ made. told_done c.args.self.now.world new c.args.number c.args.event.now c.in-Ok.done _ c.in-Ok.ensures.done c.log-log.ensures.run (
    made ∙ ap (λ (l : List ℕ). l ++ done_line c.plant.result.now c.log-log.result.now c.args.event.now c.in-Ok.done) c.clear.ensures.bytes
    ∙ ap (λ (p : PlantValue). done_line p c.log-log.result.now c.args.event.now c.in-Ok.done) c.plant.ensures
    ∙ ap (λ (l : List Evaluated). done_line new.setting.plant l c.args.event.now c.in-Ok.done) c.log-log.ensures.value))

use Rattle.std.proofs.Common.{◌≡◌, ◌<◌, length, sym, ap, ◌∙◌, arith}
use Rattle.plant.specs.PlantValue.{tasks_at, codes_at}
use Rattle.text_commands.proofs.Counting.{as_many}
use Rattle.text_commands.proofs.PlanLines.{none_more, taker_found}
use Rattle.text_commands.proofs.plan_lines.has_taker.Goals as goal

pub returns-then-takes : goal.returns-then-takes
returns-then-takes c = sym (taker_found c.args.plant.now c.args.resource c.loop-task.task c.args.producer (sym c.takes.ensures ∙ c.if-takes.true))

pub loop-task-preserved : goal.loop-task-preserved
loop-task-preserved c =
    let many = as_many c.args.plant.now c.args.resource c.resources-resources.ensures.sound.coded in
    let tasks : length c.tasks-task-end.result.now ≡ length (tasks_at c.args.plant.now c.args.resource) = ap length c.tasks-task-end.ensures in
    let within : c.loop-task.task < length (codes_at c.args.plant.now c.args.resource) = omega (arith, c.loop-task-test.true, many, tasks) in
    none_more c.args.plant.now c.args.resource c.loop-task.task c.args.producer within c.loop-task.invariant (sym c.takes.ensures ∙ c.if-takes.false)

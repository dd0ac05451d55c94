use Rattle.std.proofs.Common.{ap, arith, length}
use Rattle.tested_schedules.proofs.Outputs.{none_of_resource, none_of_tasks}
use Rattle.tested_schedules.proofs.finding.find_in_resource.Goals as goal

pub returns-clause-none : goal.returns-clause-none
returns-clause-none c =
    let end = ap length c.tasks-task-end.ensures in
    none_of_resource c.args.plant.now c.args.parts.name.now c.args.parts.value.now c.args.resource c.requires.sound (λ j place v lt. c.loop-task.invariant j place v (omega (arith, lt, end, c.loop-task-test.false)))

pub loop-task-preserved : goal.loop-task-preserved
loop-task-preserved c =
    none_of_tasks c.args.plant.now c.args.parts.name.now c.args.parts.value.now c.args.resource c.loop-task.task c.in_ok-place.field-0 c.loop-task.invariant c.in_ok-place.ensures c.in_default.not-Some

use Rattle.std.proofs.Common.{◌≡◌, length, sum_by, ap, ◌∙◌, arith}
use Rattle.std.proofs.lemmas.List.{take_all}
use Rattle.plant.specs.PlantValue.{tasks_at, codes_at}
use Rattle.task_codes.specs.CodeValue.{CodeValue}
use Rattle.text_commands.proofs.Counting.{more_or, room_or, as_many}
use Rattle.text_commands.proofs.plant_counts.instances_of.Goals as goal

pub overflow_add-count : goal.overflow_add-count
overflow_add-count c = omega (arith, room_or (λ (c : CodeValue). length c.programs) (codes_at c.args.plant.now c.args.resource) c.loop-task.task, c.programs_at-count.ensures, c.loop-task.invariant, c.requires.few)

pub loop-task-preserved : goal.loop-task-preserved
loop-task-preserved c = omega (arith, more_or (λ (c : CodeValue). length c.programs) (codes_at c.args.plant.now c.args.resource) c.loop-task.task, c.programs_at-count.ensures, c.loop-task.invariant)

pub returns : goal.returns
returns c =
    let many = as_many c.args.plant.now c.args.resource c.requires.sound.coded in
    let tasks : length c.tasks-task-end.result.now ≡ length (tasks_at c.args.plant.now c.args.resource) = ap length c.tasks-task-end.ensures in
    c.loop-task.invariant ∙ ap (λ cs. sum_by (λ (c : CodeValue). length c.programs) cs) (take_all c.loop-task.task (codes_at c.args.plant.now c.args.resource) (omega arith))

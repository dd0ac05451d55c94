use Rattle.std.proofs.Common.{◌≡◌, ◌<◌, length, ap, arith}
use Rattle.plant.specs.PlantValue.{tasks_at}
use Rattle.text_commands.proofs.Counting.{tasks_more, tasks_room}
use Rattle.text_commands.proofs.plant_counts.count_tasks.Goals as goal

pub overflow_add-count : goal.overflow_add-count
overflow_add-count c =
    let lt : c.loop-resource.resource < length c.args.plant.now.resources = omega arith in
    let long : length c.tasks.result.now ≡ length (tasks_at c.args.plant.now c.loop-resource.resource) = ap length c.tasks.ensures in
    omega (arith, tasks_room c.args.plant.now c.loop-resource.resource lt, long, c.loop-resource.invariant)

pub loop-resource-preserved : goal.loop-resource-preserved
loop-resource-preserved c =
    let lt : c.loop-resource.resource < length c.args.plant.now.resources = omega arith in
    let long : length c.tasks.result.now ≡ length (tasks_at c.args.plant.now c.loop-resource.resource) = ap length c.tasks.ensures in
    omega (arith, tasks_more c.args.plant.now c.loop-resource.resource lt, long, c.loop-resource.invariant)

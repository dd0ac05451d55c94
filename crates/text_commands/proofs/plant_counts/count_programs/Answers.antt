use Rattle.std.proofs.Common.{◌<◌, length, arith}
use Rattle.text_commands.proofs.Counting.{programs_more, programs_room}
use Rattle.text_commands.proofs.plant_counts.count_programs.Goals as goal

pub instances_of-count-requires : goal.instances_of-count-requires
instances_of-count-requires c =
    let lt : c.loop-resource.resource < length c.args.plant.now.resources = omega arith in
    record { sound = c.resources-resource-end.ensures.sound; few = omega (arith, programs_room c.args.plant.now c.loop-resource.resource lt, c.requires) }

pub overflow_add-count : goal.overflow_add-count
overflow_add-count c =
    let lt : c.loop-resource.resource < length c.args.plant.now.resources = omega arith in
    omega (arith, programs_room c.args.plant.now c.loop-resource.resource lt, c.instances_of-count.ensures, c.loop-resource.invariant)

pub loop-resource-preserved : goal.loop-resource-preserved
loop-resource-preserved c =
    let lt : c.loop-resource.resource < length c.args.plant.now.resources = omega arith in
    omega (arith, programs_more c.args.plant.now c.loop-resource.resource lt, c.instances_of-count.ensures, c.loop-resource.invariant)

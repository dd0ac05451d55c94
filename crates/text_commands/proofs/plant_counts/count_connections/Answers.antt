use Rattle.std.proofs.Common.{◌<◌, length, arith}
use Rattle.text_commands.proofs.Counting.{connections_more, connections_room}
use Rattle.text_commands.proofs.plant_counts.count_connections.Goals as goal

pub connections_of-count-requires : goal.connections_of-count-requires
connections_of-count-requires c =
    let lt : c.loop-resource.resource < length c.args.plant.now.resources = omega arith in
    record { sound = c.resources-resource-end.ensures.sound; few = omega (arith, connections_room c.args.plant.now c.loop-resource.resource lt, c.requires) }

pub overflow_add-count : goal.overflow_add-count
overflow_add-count c =
    let lt : c.loop-resource.resource < length c.args.plant.now.resources = omega arith in
    omega (arith, connections_room c.args.plant.now c.loop-resource.resource lt, c.connections_of-count.ensures, c.loop-resource.invariant)

pub loop-resource-preserved : goal.loop-resource-preserved
loop-resource-preserved c =
    let lt : c.loop-resource.resource < length c.args.plant.now.resources = omega arith in
    omega (arith, connections_more c.args.plant.now c.loop-resource.resource lt, c.connections_of-count.ensures, c.loop-resource.invariant)

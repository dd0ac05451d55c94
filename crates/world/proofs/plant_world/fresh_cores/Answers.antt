use Rattle.std.proofs.Common.{rules}
use Rattle.task_codes.specs.CodeValue.{lists_of}
use Rattle.world.proofs.Worlds.Starts.{fresh-more}
use Rattle.world.proofs.plant_world.fresh_cores.Goals as goal

pub loop-resource-preserved : goal.loop-resource-preserved
loop-resource-preserved l =
    rw l.in_ok-push.ensures.items
    (fresh-more l.args.plant.now.value l.args.first.now (lists_of l.args.opening.now) l.args.max_number l.loop-resource.resource l.loop-resource.cores.items l.in_ok-fresh_core.field-0 l.loop-resource.invariant (search rules))

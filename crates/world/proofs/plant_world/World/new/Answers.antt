use Rattle.std.proofs.Common.{subst}
use Rattle.plant.specs.PlantValue.{IsSoundPlant}
use Rattle.task_codes.specs.CodeValue.{lists_of}
use Rattle.world.proofs.Worlds.Starts.{world-new}
use Rattle.world.proofs.plant_world.World.new.Goals as goal

pub invariant_of-result : goal.invariant_of-result
invariant_of-result c =
    rw (c.in_ok-first.ensures.items, c.in_ok-opening.ensures, c.new.ensures.items, c.new-2.ensures.items)
    (world-new (record { plant = c.args.plant.value; first = c.args.first.now; opening = lists_of c.args.opening.now; max_number = c.args.max_number }) c.in_ok-cores.cores.items (subst IsSoundPlant c.deref.ensures c.resources-resources.ensures.sound) c.requires.first c.requires.opening c.in_ok-cores.ensures)

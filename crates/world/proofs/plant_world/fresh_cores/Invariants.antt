use Rattle.task_codes.specs.CodeValue.{lists_of}
use Rattle.world.specs.Steps.Fresh.{AreFresh}
use Rattle.world.proofs.plant_world.fresh_cores.Given as goal

abbrev pub invariant-loop-resource : goal.invariant-loop-resource
invariant-loop-resource l = AreFresh l.plant.value l.first (lists_of l.opening) l.max_number l.resource l.cores.items

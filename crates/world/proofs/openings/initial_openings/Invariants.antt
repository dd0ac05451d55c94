use Rattle.std.proofs.Common.{◌≡◌, map, take}
use Rattle.task_codes.specs.CodeValue.{lists_of}
use Rattle.plant.specs.PlantValue.{ResourceValue}
use Rattle.evaluation.specs.Retained.{initial_retained}
use Rattle.world.proofs.openings.initial_openings.Given as goal

abbrev pub invariant-loop-resource : goal.invariant-loop-resource
invariant-loop-resource l = lists_of l.opening.items ≡ map (λ (r : ResourceValue). map initial_retained r.codes) (take l.resource l.plant.resources)

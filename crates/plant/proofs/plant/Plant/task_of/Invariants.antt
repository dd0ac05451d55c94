use Rattle.std.proofs.Common.{◌<◌}
use Rattle.task_codes.specs.declared.task_ref.TaskRef.{TaskRef}
use Rattle.plant.specs.Find.{IsTaskAt}
use Rattle.plant.proofs.plant.Plant.task_of.Given as goal

abbrev pub invariant-loop-resource : goal.invariant-loop-resource
invariant-loop-resource l = (t : TaskRef) → t.resource < l.resource → IsTaskAt l.self l.owner l.task t → ⊥

use Rattle.std.proofs.Common.{◌≡◌, length, take, sum_by}
use Rattle.plant.specs.PlantValue.{ResourceValue}
use Rattle.text_commands.proofs.plant_counts.count_tasks.Given as goal

abbrev pub invariant-loop-resource : goal.invariant-loop-resource
invariant-loop-resource l = l.count ≡ sum_by (λ (r : ResourceValue). length r.tasks) (take l.resource l.plant.resources)

use Rattle.std.proofs.Common.{◌≡◌, take, sum_by}
use Rattle.plant.specs.PlantValue.{ResourceValue}
use Rattle.plant.specs.Counts.{instances_of}
use Rattle.text_commands.proofs.plant_counts.count_programs.Given as goal

abbrev pub invariant-loop-resource : goal.invariant-loop-resource
invariant-loop-resource l = l.count ≡ sum_by (λ (r : ResourceValue). instances_of r.codes) (take l.resource l.plant.resources)

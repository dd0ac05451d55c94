use Rattle.std.proofs.Common.{◌≡◌, length, take, sum_by}
use Rattle.plant.specs.PlantValue.{codes_at}
use Rattle.task_codes.specs.CodeValue.{CodeValue}
use Rattle.text_commands.proofs.plant_counts.instances_of.Given as goal

abbrev pub invariant-loop-task : goal.invariant-loop-task
invariant-loop-task l = l.count ≡ sum_by (λ (c : CodeValue). length c.programs) (take l.task (codes_at l.plant l.resource))

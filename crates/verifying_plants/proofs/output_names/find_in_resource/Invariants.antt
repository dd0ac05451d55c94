use Rattle.std.proofs.Common.{ℕ, ◌<◌}
use Rattle.verifying_plants.specs.Names.{IsNamed}
use Rattle.verifying_plants.proofs.output_names.find_in_resource.Given as goal

abbrev pub invariant-loop-task : goal.invariant-loop-task
invariant-loop-task l = (j place : ℕ) → j < l.task → IsNamed l.plant l.word (record { task = record { resource = l.resource; task = j }; place = place }) → ⊥

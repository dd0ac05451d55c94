use Rattle.std.proofs.Common.{ℕ, ◌<◌}
use Rattle.verifying_plants.specs.Names.{IsNamed}
use Rattle.verifying_plants.proofs.output_names.find_in_task.Given as goal

abbrev pub invariant-loop-place : goal.invariant-loop-place
invariant-loop-place l = (j : ℕ) → j < l.place → IsNamed l.plant l.word (record { task = l.task; place = j }) → ⊥

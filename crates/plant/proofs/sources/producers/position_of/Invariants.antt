use Rattle.std.proofs.Common.{◌≡◌, ℕ, ◌<◌, get_or}
use Rattle.task_codes.specs.declared.task_ref.TaskRef.{TaskRef}
use Rattle.plant.proofs.sources.producers.position_of.Given as goal

abbrev pub invariant-loop-k : goal.invariant-loop-k
invariant-loop-k l = (k : ℕ) (d : TaskRef) → k < l.k → get_or l.producers k d ≡ l.task → ⊥

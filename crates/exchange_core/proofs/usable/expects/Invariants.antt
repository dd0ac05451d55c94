use Rattle.std.proofs.Common.{◌≡◌, ◌<◌, ℕ, Some, map}
use Rattle.declared_names.specs.Kinds.{kind_of}
use Rattle.plant.specs.PlantValue.{code_at}
use Rattle.task_codes.specs.CodeValue.{CodeValue}
use Rattle.exchange_core.specs.Steps.KnowingMessages.{ExpectsOf}
use Rattle.exchange_core.proofs.usable.expects.Given as goal

abbrev pub invariant-loop-k : goal.invariant-loop-k
invariant-loop-k l = (j : ℕ) (c : CodeValue) → j < l.k → code_at l.plant (record { resource = l.resource; task = j }) ≡ Some c → ExpectsOf c l.task (map kind_of l.image) → ⊥

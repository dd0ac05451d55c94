use Rattle.std.proofs.Common.{◌≡◌, ◌<◌, ℕ, List, Some, slice_get}
use Rattle.std_blocks.specs.declared.value.Value.{Value}
use Rattle.plant.specs.PlantValue.{codes_at}
use Rattle.task_codes.specs.CodeValue.{CodeValue}
use Rattle.evaluation.specs.Retained.{Suits}
use Rattle.exchange_core.proofs.opening.is_opening.Given as goal

abbrev pub invariant-loop-task : goal.invariant-loop-task
invariant-loop-task l =
    (k : ℕ) (code : CodeValue) (values : List Value) → k < l.task → slice_get (codes_at l.plant l.resource) k ≡ Some code → slice_get l.opening k ≡ Some values → Suits code values

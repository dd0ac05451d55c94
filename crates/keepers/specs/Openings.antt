-- With what the tasks of a resource open.
use Rattle.std.specs.Prelude.{◌≡◌, ℕ, List, Some, Ok, slice_get}
use Rattle.std_blocks.specs.declared.value.Value.{Value}
use Rattle.task_codes.specs.CodeValue.{CodeValue}
use Rattle.plant.specs.PlantValue.{PlantValue, code_at}
use Rattle.keepers.specs.Keepers.{Telling}

-- these values of a resource's tasks are what a keeper may tell that it keeps of them
abbrev pub TellsOpening : Telling → PlantValue → ℕ → List (List Value) → Type 0
TellsOpening tells plant resource opening =
    (task : ℕ) (code : CodeValue) (values : List Value)
    → code_at plant (record { resource = resource; task = task }) ≡ Some code → slice_get opening task ≡ Some values
    → tells task code (Ok values)

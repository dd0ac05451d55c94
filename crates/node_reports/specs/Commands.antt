-- What is asked of the commands of a run.
use Rattle.std.specs.Prelude.{◌≡◌, ℕ, ◌+◌, ◌<◌, List, Some, All, length, slice_get}
use Rattle.plant.specs.PlantValue.{PlantValue}
use Rattle.node_reports.specs.declared.command.Command.{Command}

-- the tickets of the commands are 1, 2, 3 and so on
abbrev pub AreNumbered : List Command → Type 0
AreNumbered commands = (k : ℕ) (c : Command) → slice_get commands k ≡ Some c → c.ticket ≡ k + 1

-- the commands' resources are resources of the plant
abbrev pub AreForPlant : PlantValue → List Command → Type 0
AreForPlant plant commands = All (λ (c : Command). c.resource < length plant.resources) commands

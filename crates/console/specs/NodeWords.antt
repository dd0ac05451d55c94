-- The word RESOURCE of the command line.
use Rattle.std.specs.Prelude.{ℕ, ◌<◌, List, length}
use Rattle.plant.specs.PlantValue.{PlantValue}
use Rattle.world.specs.ScheduleText.{IsResourceWord}

-- the word names the resource at this place, and there is one
abbrev pub NamesResource : PlantValue → List ℕ → ℕ → Type 0
NamesResource plant word n = IsResourceWord plant word n × (n < length plant.resources)

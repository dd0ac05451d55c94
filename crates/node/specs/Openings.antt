-- With what the tasks of a run open.
use Rattle.std.specs.Prelude.{◌≡◌, ℕ, List, Some, slice_get}
use Rattle.plant.specs.PlantValue.{PlantValue}
use Rattle.keepers.specs.Keepers.{Telling}
use Rattle.keepers.specs.Openings.{TellsOpening}
use Rattle.node_reports.specs.declared.journal.Journal.{Journal}

-- each of these journals opens with what its keeper, at the same place, may tell that it keeps of the resource's tasks
abbrev pub OpenAsTold : {K : Type 0} → (K → Telling) → PlantValue → List K → List Journal → Type 0
OpenAsTold {K} tells plant keepers journals =
    (k : ℕ) (keeper : K) (j : Journal) → slice_get keepers k ≡ Some keeper → slice_get journals k ≡ Some j
    → TellsOpening (tells keeper) plant k j.opening

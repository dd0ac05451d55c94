-- Which code an evaluation is by.
use Rattle.std.specs.Prelude.{◌≡◌, List, Some, All}
use Rattle.plant.specs.PlantValue.{PlantValue, code_at}
use Rattle.evaluation.specs.Meaning.{Evaluated}

-- an evaluation is by the plant's code of its task
abbrev pub IsOfPlant : PlantValue → Evaluated → Type 0
IsOfPlant plant x = code_at plant x.name.task ≡ Some x.code

-- each of these evaluations is
abbrev pub AreOfPlant : PlantValue → List Evaluated → Type 0
AreOfPlant plant xs = All (IsOfPlant plant) xs

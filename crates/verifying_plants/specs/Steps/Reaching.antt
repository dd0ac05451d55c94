-- How the tasks are listed that are looked at.
use Rattle.std.specs.Prelude.{ℕ, List}
use Rattle.lists.specs.Among.{Among}
use Rattle.task_codes.specs.declared.task_ref.TaskRef.{TaskRef}
use Rattle.plant.specs.PlantValue.{PlantValue}
use Rattle.plant_claims.specs.Steps.Scoping.{CompletesTo, Completes}
use Rattle.verifying_plants.specs.ZeroWords.{IsReached}

-- these tasks are reached from those
abbrev pub AreReached : PlantValue → List TaskRef → List TaskRef → Type 0
AreReached plant from tasks = (t : TaskRef) → Among t tasks → IsReached plant from t

-- tasks to which those came that are reached over the first of them
pub record ReachesTo (plant : PlantValue) (k : ℕ) (old new : List TaskRef) : Type 0 where
  pub completes : CompletesTo plant k old new
  pub only : AreReached plant old new

-- all that are reached came
pub record Reaches (plant : PlantValue) (old new : List TaskRef) : Type 0 where
  pub completes : Completes plant old new
  pub only : AreReached plant old new

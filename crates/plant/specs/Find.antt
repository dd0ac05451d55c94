-- The task of a name.
use Rattle.std.specs.Prelude.{◌≡◌, ℕ, List, Option, MatchOption, Contains}
use Rattle.std.specs.List.{before_first, after_first}
use Rattle.declared_names.specs.Names.{is_dot}
use Rattle.task_codes.specs.declared.task_ref.TaskRef.{TaskRef}
use Rattle.plant_grammar.specs.Names.{IsAt}
use Rattle.plant.specs.PlantValue.{TaskValue, ResourceValue, PlantValue}

-- a resource of the first name stands there, and in it a task of the second
pub record IsTaskAt (plant : PlantValue) (resource task : List ℕ) (t : TaskRef) : Type 0 where
  pub owner : ResourceValue
  pub line : TaskValue
  pub resource_is : IsAt (λ (r : ResourceValue). r.name) plant.resources resource t.resource owner
  pub task_is : IsAt (λ (x : TaskValue). x.name) owner.tasks task t.task line

-- the parts of a name before and behind its first dot
pub record ArePartsOf (name first second : List ℕ) : Type 0 where
  pub dotted : Contains name 46
  pub before : first ≡ before_first is_dot name
  pub behind : second ≡ after_first is_dot name

-- what is found is something of which this holds; it is none only where it holds of nothing
abbrev pub Finds : {A : Type 0} → (A → Type 0) → Option A → Type 0
Finds {A} P found = MatchOption found ((x : A) → P x → ⊥) P

-- the name is a resource's, a dot, and a task's
pub record IsTaskNamed (plant : PlantValue) (name : List ℕ) (t : TaskRef) : Type 0 where
  pub resource : List ℕ
  pub task : List ℕ
  pub parts : ArePartsOf name resource task
  pub task_is : IsTaskAt plant resource task t

-- A plant, as a value.
use Rattle.std.specs.Prelude.{◌≡◌, ℕ, List, Option, Some, length, slice_get}
use Rattle.std.specs.Option.{option_map}
use Rattle.lists.specs.Items.{items_or_none}
use Rattle.task_codes.specs.declared.task_ref.TaskRef.{TaskRef}
use Rattle.task_codes.specs.CodeValue.{CodeValue, image_kinds, AreDistinct}

-- a task as it is declared
pub record TaskValue : Type 0 where
  pub name : List ℕ
  pub interval : ℕ
  pub priority : ℕ

-- a resource: its name, its tasks, and the code of each
pub record ResourceValue : Type 0 where
  pub name : List ℕ
  pub tasks : List TaskValue
  pub codes : List CodeValue

-- the resources of a plant in order
pub record PlantValue : Type 0 where
  pub resources : List ResourceValue

-- the name of a resource as it was declared
abbrev pub resource_name_at : PlantValue → ℕ → Option (List ℕ)
resource_name_at plant resource = option_map (λ (r : ResourceValue). r.name) (slice_get plant.resources resource)

-- the tasks of a resource; none where there is no such resource
abbrev pub tasks_at : PlantValue → ℕ → List TaskValue
tasks_at plant resource =
    items_or_none (option_map (λ (r : ResourceValue). r.tasks) (slice_get plant.resources resource))

-- the codes of a resource's tasks
abbrev pub codes_at : PlantValue → ℕ → List CodeValue
codes_at plant resource =
    items_or_none (option_map (λ (r : ResourceValue). r.codes) (slice_get plant.resources resource))

-- the code of a task
abbrev pub code_at : PlantValue → TaskRef → Option CodeValue
code_at plant t = slice_get (codes_at plant t.resource) t.task

-- the tasks from which a task takes; none where there is no such task
abbrev pub producers_at : PlantValue → TaskRef → List TaskRef
producers_at plant t = items_or_none (option_map (λ (c : CodeValue). c.producers) (code_at plant t))

-- each task from which a code takes is a task of the plant, and its image has the kinds that are expected
abbrev pub AreProducersOf : PlantValue → CodeValue → Type 0
AreProducersOf plant c =
    (k : ℕ) (t : TaskRef) → slice_get c.producers k ≡ Some t
    → (p : CodeValue) × (code_at plant t ≡ Some p) × (slice_get c.expected k ≡ Some (image_kinds p))

-- a plant: each task has its code, and takes from tasks of the plant, of which none is its producer twice
pub record IsSoundPlant (plant : PlantValue) : Type 0 where
  pub coded : (r : ResourceValue) (k : ℕ) → slice_get plant.resources k ≡ Some r → length r.codes ≡ length r.tasks
  pub taken : (t : TaskRef) (c : CodeValue) → code_at plant t ≡ Some c → AreProducersOf plant c
  pub distinct : (t : TaskRef) (c : CodeValue) → code_at plant t ≡ Some c → AreDistinct c.producers

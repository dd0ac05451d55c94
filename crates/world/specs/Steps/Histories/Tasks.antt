-- References to tasks, and the tasks that a plant has.
use Rattle.std.proofs.Common.{◌≡◌, ℕ, ◌<◌, true, List, Option, Some, length, refl}
use Rattle.std.specs.Prelude.{slice_get}
use Rattle.std.specs.Option.{option_map}
use Rattle.std.proofs.lemmas.Option.{slice_get_within}
use Rattle.lists.proofs.Tables.{both_same, both_itself, row_of_cell}
use Rattle.task_codes.specs.declared.task_ref.TaskRef.{TaskRef}
use Rattle.lists.specs.Items.{items_or_none}
use Rattle.plant.specs.PlantValue.{ResourceValue, PlantValue, code_at}
use Rattle.task_codes.specs.CodeValue.{CodeValue}
use Rattle.evaluation.specs.Last.{same_task}

-- the task of a resource that two numbers name
abbrev task_ref : ℕ → ℕ → TaskRef
task_ref resource task = record { resource = resource; task = task }

pub same_task-true : (a b : TaskRef) → same_task a b ≡ true → a ≡ b
same_task-true a b h = both_same task_ref a.resource a.task b.resource b.task h

pub same_task-itself : (a : TaskRef) → same_task a a ≡ true
same_task-itself a = both_itself a.resource a.task

-- the codes of a resource; none where there is no resource
abbrev pub codes_in : Option ResourceValue → List CodeValue
codes_in o = items_or_none (option_map (λ (r : ResourceValue). r.codes) o)

-- a task that has a code is of a resource of the plant
pub resource_exists : (plant : PlantValue) (t : TaskRef) (code : CodeValue) → code_at plant t ≡ Some code → t.resource < length plant.resources
resource_exists plant t code found =
    let at = row_of_cell codes_in (slice_get plant.resources t.resource) t.task code refl found in
    slice_get_within plant.resources t.resource at.0 at.1

-- The plan of a plant: what is due of its tasks, and when.
use Rattle.std.specs.Prelude.{ℕ, ◌<◌, List, Option, length, map, slice_get}
use Rattle.task_codes.specs.declared.due.Due.{Due}
use Rattle.task_codes.specs.declared.task_ref.TaskRef.{TaskRef}
use Rattle.task_codes.specs.declared.timing.Timing.{Timing}
use Rattle.task_codes.specs.Plan.{IsPlanOf}
use Rattle.plant.specs.PlantValue.{TaskValue, ResourceValue, PlantValue, tasks_at}

-- a task of the plant
abbrev pub task_at : PlantValue → TaskRef → Option TaskValue
task_at plant t = slice_get (tasks_at plant t.resource) t.task

-- when a task is due
abbrev pub timing_of : TaskValue → Timing
timing_of t = record { interval = t.interval; priority = t.priority }

-- when the tasks of each resource are due
abbrev pub timings_of : PlantValue → List (List Timing)
timings_of plant = map (λ (r : ResourceValue). map timing_of r.tasks) plant.resources

-- the plan: what is due of these tasks up to and with until
abbrev pub IsPlan : PlantValue → ℕ → List Due → Type 0
IsPlan plant until dues = IsPlanOf (timings_of plant) until dues

-- the plan up to and with until has more than 100,000 entries
abbrev pub IsPlanTooLong : PlantValue → ℕ → Type 0
IsPlanTooLong plant until = (dues : List Due) × IsPlan plant until dues × (100000 < length dues)

-- A table of the last evaluation known of each task, by resource and task.
use Rattle.std.specs.Prelude.{List, Option}
use Rattle.task_codes.specs.declared.task_ref.TaskRef.{TaskRef}
use Rattle.plant.specs.PlantValue.{PlantValue}
use Rattle.evaluation.specs.Meaning.{Evaluated}
use Rattle.exchange_core.specs.HeldMessages.{at_task, with_task, nothing_for, HasPlaces}

abbrev pub Table : Type 0
Table = List (List (Option Evaluated))

-- what is known of a task
abbrev pub known : Table → TaskRef → Option Evaluated
known table p = at_task table p

-- the table with this as what is known of the task
abbrev pub with_known : Table → TaskRef → Option Evaluated → Table
with_known table p last = with_task table p last

-- nothing is known of any task
abbrev pub empty_for : PlantValue → Table
empty_for plant = nothing_for plant

-- the table has a place for each task of the plant
abbrev pub IsShaped : PlantValue → Table → Type 0
IsShaped plant table = HasPlaces plant table

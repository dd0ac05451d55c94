-- What is known of the tasks of a plant, in a table by resource and task.
use Rattle.std.specs.Prelude.{◌≡◌, List, [], Option, Some, None, length, map, replicate, slice_index_or, slice_set}
use Rattle.std.specs.Option.{option_map, option_and_then}
use Rattle.task_codes.specs.declared.task_ref.TaskRef.{TaskRef}
use Rattle.plant.specs.PlantValue.{ResourceValue, PlantValue}
use Rattle.evaluation.specs.Meaning.{Evaluated}
use Rattle.evaluation.specs.Messages.{MessageValue, message_of}
use Rattle.exchange_core.specs.declared.last.Last.{Last}
use Rattle.exchange_core.specs.declared.last.Last.TheVariants.{Whole, Told}

-- the message of what is known
abbrev pub message_in : Last → MessageValue
message_in (Whole x) = message_of x
message_in (Told m) = m

-- the evaluation, where it is known as a whole
abbrev pub whole_in : Last → Option Evaluated
whole_in (Whole x) = Some x
whole_in (Told m) = None

-- what stands in a table at a task's place
abbrev pub at_task : {X : Type 0} → List (List (Option X)) → TaskRef → Option X
at_task table p = slice_index_or (slice_index_or table p.resource []) p.task None

-- the table with this at the task's place
abbrev pub with_task : {X : Type 0} → List (List (Option X)) → TaskRef → Option X → List (List (Option X))
with_task table p last = slice_set table p.resource (slice_set (slice_index_or table p.resource []) p.task last)

-- a table with a place for each task of a plant, and nothing there
abbrev pub nothing_for : {X : Type 0} → PlantValue → List (List (Option X))
nothing_for plant = map (λ (r : ResourceValue). replicate (length r.codes) None) plant.resources

-- the table has a place for each task of the plant
abbrev pub HasPlaces : {X : Type 0} → PlantValue → List (List (Option X)) → Type 0
HasPlaces plant table = map length table ≡ map (λ (r : ResourceValue). length r.codes) plant.resources

abbrev pub Table : Type 0
Table = List (List (Option Last))

-- what is known of a task
abbrev pub known : Table → TaskRef → Option Last
known table p = at_task table p

-- the evaluation known of a task, where it is known as a whole
abbrev pub whole_known : Table → TaskRef → Option Evaluated
whole_known table p = option_and_then whole_in (known table p)

-- the message known of a task
abbrev pub message_known : Table → TaskRef → Option MessageValue
message_known table p = option_map message_in (known table p)

-- the table with this as what is known of the task
abbrev pub with_known : Table → TaskRef → Option Last → Table
with_known table p last = with_task table p last

-- nothing is known of any task
abbrev pub empty_for : PlantValue → Table
empty_for plant = nothing_for plant

-- the table has a place for each task of the plant
abbrev pub IsShaped : PlantValue → Table → Type 0
IsShaped plant table = HasPlaces plant table

-- The outputs of a plant's tasks, with their values at each moment.
use Rattle.std.specs.Prelude.{ℕ, zero, suc, ◌++◌, if◌then◌else◌, List, [], ◌∷◌, Option, None, Some, length, slice_get, unwrap_or}
use Rattle.std.specs.Option.{option_map_or}
use Rattle.std_blocks.specs.declared.value.Value.{Value}
use Rattle.declared_names.specs.Kinds.{value_first}
use Rattle.task_codes.specs.declared.task_ref.TaskRef.{TaskRef}
use Rattle.task_codes.specs.declared.task_output.TaskOutput.{TaskOutput}
use Rattle.task_codes.specs.CodeValue.{CodeValue}
use Rattle.plant.specs.PlantValue.{PlantValue, code_at, tasks_at}
use Rattle.evaluation.specs.Meaning.{Evaluated}
use Rattle.evaluation.specs.Last.{same_task}
use Rattle.text_lines.specs.LineParts.{resource_text}
use Rattle.text_lines.specs.Lists.{instance_text, variable_text}
use Rattle.traces.specs.Tracks.{TrackValue}

-- an output of a task behind a moment in which this was evaluated, or nothing: what its task's evaluation gave
abbrev pub value_behind : TaskRef → ℕ → Value → Option Evaluated → Value
value_behind task output value None = value
value_behind task output value (Some x) =
    if same_task x.name.task task then unwrap_or (slice_get x.outputs output) value else value

-- the values of an output behind each moment, where it is this before them
abbrev pub values_behind : TaskRef → ℕ → Value → List (Option Evaluated) → List Value
values_behind task output value [] = []
values_behind task output value (made ∷ moments) =
    value_behind task output value made ∷ values_behind task output (value_behind task output value made) moments

-- the values of an output: this one, and one behind each moment
abbrev pub values_from : TaskRef → ℕ → Value → List (Option Evaluated) → List Value
values_from task output value moments = value ∷ values_behind task output value moments

-- an output of a task by the names of its resource, its program and its variable; before the task's first evaluation it is
-- FALSE, 0 or T#0ms
abbrev pub output_track : PlantValue → List (Option Evaluated) → TaskRef → CodeValue → ℕ → TaskOutput → TrackValue
output_track plant moments task code output o = record {
  scope = Some (record { resource = resource_text plant task.resource; program = instance_text code o });
  name = variable_text o (slice_get code.programs o.program);
  values = values_from task output (value_first o.kind) moments;
}

-- the first so many outputs of a task
abbrev pub task_tracks : PlantValue → List (Option Evaluated) → TaskRef → CodeValue → ℕ → List TrackValue
task_tracks plant moments task code zero = []
task_tracks plant moments task code (suc output) =
    task_tracks plant moments task code output
    ++ option_map_or (λ o. output_track plant moments task code output o ∷ []) (slice_get code.outputs output) []

abbrev pub code_tracks : PlantValue → List (Option Evaluated) → TaskRef → CodeValue → List TrackValue
code_tracks plant moments task code = task_tracks plant moments task code (length code.outputs)

-- those of the first so many tasks of a resource
abbrev pub resource_tracks : PlantValue → List (Option Evaluated) → ℕ → ℕ → List TrackValue
resource_tracks plant moments resource zero = []
resource_tracks plant moments resource (suc task) =
    resource_tracks plant moments resource task
    ++ option_map_or (code_tracks plant moments (record { resource = resource; task = task }))
    (code_at plant (record { resource = resource; task = task })) []

-- those of the first so many resources
abbrev pub plant_tracks : PlantValue → List (Option Evaluated) → ℕ → List TrackValue
plant_tracks plant moments zero = []
plant_tracks plant moments (suc resource) =
    plant_tracks plant moments resource ++ resource_tracks plant moments resource (length (tasks_at plant resource))

-- all outputs of a plant's tasks, in order of declaration
abbrev pub tracks_of : PlantValue → List (Option Evaluated) → List TrackValue
tracks_of plant moments = plant_tracks plant moments (length plant.resources)

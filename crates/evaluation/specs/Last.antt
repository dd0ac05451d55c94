-- What a task takes and starts from, given the last evaluation that is known of each task.
use Rattle.std.specs.Prelude.{ℕ, ◌==◌, ◌&&◌, Bool, List, Option, Some, None, map}
use Rattle.std.specs.List.{zip}
use Rattle.std_blocks.specs.declared.value.Value.{Value}
use Rattle.declared_names.specs.declared.declarations.Kind.{Kind}
use Rattle.power_flow.specs.StateValue.{StateValue}
use Rattle.task_codes.specs.declared.task_ref.TaskRef.{TaskRef}
use Rattle.task_codes.specs.CodeValue.{CodeValue}
use Rattle.evaluation.specs.declared.take.Take.{Take}
use Rattle.evaluation.specs.Takes.{initial_image}
use Rattle.evaluation.specs.Retained.{retained_values, warm_state}
use Rattle.evaluation.specs.Meaning.{Evaluated}

-- two references to one task
abbrev pub same_task : TaskRef → TaskRef → Bool
same_task a b = a.resource == b.resource && a.task == b.task

-- what outlives a restart of a task: what its last evaluation left in the retained variables;
-- where there is none, what was kept before
abbrev pub left_by : List Value → Option Evaluated → List Value
left_by kept None = kept
left_by kept (Some x) = retained_values x.code x.after

-- the state before the next evaluation of a task: the one that its last evaluation left;
-- where there is none, the initial one, but for the retained variables, which have what was kept
abbrev pub state_from : CodeValue → List Value → Option Evaluated → List StateValue
state_from code kept None = warm_state code kept
state_from code kept (Some x) = x.after

-- the number of a task's last evaluation, or 0
abbrev pub last_number : Option Evaluated → ℕ
last_number None = 0
last_number (Some x) = x.name.number

-- which evaluation a take is from: its incarnation and number
abbrev pub from_of : Option Evaluated → Option (ℕ × ℕ)
from_of None = None
from_of (Some x) = Some (x.name.incarnation, x.name.number)

-- its image, or the initial one of these kinds
abbrev pub image_of : List Kind → Option Evaluated → List Value
image_of kinds None = initial_image kinds
image_of kinds (Some x) = x.outputs

-- the take from a producer of which this is the last evaluation, or of which there is none
abbrev pub take_of : TaskRef → List Kind → Option Evaluated → Take
take_of p kinds last = record { producer = p; from = from_of last; image = image_of kinds last }

-- one take for each producer, in order, of its last evaluation
abbrev pub takes_of : (TaskRef → Option Evaluated) → CodeValue → List Take
takes_of last code = map (λ e. take_of e.0 e.1 (last e.0)) (zip code.producers code.expected)

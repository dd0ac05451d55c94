-- The run of a list of events: the evaluations that it makes. A log has the newest evaluation first.
use Rattle.std.specs.Prelude.{◌≡◌, ℕ, ◌+◌, suc, ◌==◌, ◌&&◌, ◌||◌, Bool, List, [], ◌∷◌, reverse, Option, Some, None, length, if◌then◌else◌}
use Rattle.std.specs.List.{list_any, find}
use Rattle.power_flow.specs.StateValue.{StateValue}
use Rattle.task_codes.specs.declared.task_ref.TaskRef.{TaskRef}
use Rattle.plant.specs.PlantValue.{code_at}
use Rattle.task_codes.specs.CodeValue.{CodeValue}
use Rattle.evaluation.specs.declared.field_input.FieldInput.{FieldInput}
use Rattle.evaluation.specs.declared.name.Name.{Name}
use Rattle.evaluation.specs.Meaning.{Evaluated, IsAsked}
use Rattle.evaluation.specs.Heard.{is_addressed}
use Rattle.evaluation.specs.Last.{same_task, left_by, state_from, takes_of}
use Rattle.world.specs.declared.event.Event.{Event}
use Rattle.world.specs.declared.event.Event.TheVariants.{Evaluate, Deliver, Restart, Hear}
use Rattle.world.specs.History.{Setting, opening_of, is_deliver_of, incarnation_of, number_of, heard_by, history_of}

-- Message k, this evaluation, has reached resource n: it is addressed to the present incarnation of n,
-- and it was made there or was delivered there.
abbrev pub has_reached : Setting → ℕ → List Event → ℕ → Evaluated → Bool
has_reached s n history k x =
    is_addressed x n (incarnation_of s n history)
    && (x.name.task.resource == n || list_any (is_deliver_of k n) history)

-- message k: the k-th evaluation made
abbrev pub message : List Evaluated → ℕ → Option Evaluated
message [] k = None
message (x ∷ older) k = if k == suc (length older) then Some x else message older k

-- of the evaluations of p, the last one that passes, by its message and itself
abbrev pub last_among : TaskRef → (ℕ → Evaluated → Bool) → List Evaluated → Option Evaluated
last_among p passes [] = None
last_among p passes (x ∷ older) =
    if same_task x.name.task p && passes (suc (length older)) x then Some x else last_among p passes older

-- The latest of producer p at resource n: the last of its evaluations among those that have reached n.
abbrev pub latest : Setting → ℕ → List Event → TaskRef → List Evaluated → Option Evaluated
latest s n history p log = last_among p (has_reached s n history) log

-- the name of the next evaluation of a task: the present incarnation of its resource,
-- and one more than its evaluations since that began
abbrev pub next_name : Setting → TaskRef → List Event → Name
next_name s t history =
    record { task = t; incarnation = incarnation_of s t.resource history; number = number_of t history + 1 }

-- the last evaluation of a task, in whatever incarnation
abbrev pub last_of : TaskRef → List Evaluated → Option Evaluated
last_of t log = find (λ (x : Evaluated). same_task x.name.task t) log

-- The state before the next evaluation of a task, whose last one since the restart is this: the state that it left.
-- Where there is none, the initial state with the retained variables as the task's last evaluation in any incarnation
-- left them; before the first one of all, with its opening.
abbrev pub state_before : Setting → CodeValue → TaskRef → List Evaluated → Option Evaluated → List StateValue
state_before s code t log last = state_from code (left_by (opening_of s t) (last_of t log)) last

-- x is the next evaluation of a task after a history and its log:
-- the plant's code, asked with what the resource has heard, the latest of each producer and the state before
pub record IsNextEvaluation (s : Setting) (history : List Event) (log : List Evaluated) (ticket : ℕ) (task : TaskRef)
    (dt : ℕ) (inputs : List FieldInput) (x : Evaluated) : Type 0 where
  pub code : CodeValue
  pub found : code_at s.plant task ≡ Some code
  pub asked : IsAsked ticket (next_name s task history) (heard_by s task.resource history) dt inputs
      (takes_of (λ p. latest s task.resource history p log) code)
      (state_before s code task log (latest s task.resource history task log)) code x

-- These are the evaluations made in a history of lawful events:
-- an Evaluate has made one, put in front of those before; no other event makes any.
abbrev pub IsLog : Setting → List Event → List Evaluated → Type 0
IsLog s [] [] = Unit {0}
IsLog s [] (x ∷ older) = ⊥
IsLog s (Deliver message resource ∷ history) log = IsLog s history log
IsLog s (Restart resource ∷ history) log = IsLog s history log
IsLog s (Hear resource of incarnation ∷ history) log = IsLog s history log
IsLog s (Evaluate ticket task dt inputs ∷ history) [] = ⊥
IsLog s (Evaluate ticket task dt inputs ∷ history) (x ∷ older) =
    IsLog s history older × IsNextEvaluation s history older ticket task dt inputs x

-- a run of a list of events: the evaluations made, in the order of their making
abbrev pub IsRun : Setting → List Event → List Evaluated → Type 0
IsRun s events log = IsLog s (history_of s events) (reverse log)

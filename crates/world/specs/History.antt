-- What has happened in a plant: lists of events. A history has the newest event first.
use Rattle.std.specs.Prelude.{◌≡◌, ℕ, ◌+◌, ◌==◌, ◌&&◌, Bool, true, false, nat_lt, nat_le, List, [], ◌∷◌, is_some, slice_index, slice_index_or, length, map, filter, Option, Some, None, if◌then◌else◌}
use Rattle.std.specs.List.{filter_map}
use Rattle.std_blocks.specs.declared.value.Value.{Value}
use Rattle.task_codes.specs.declared.task_ref.TaskRef.{TaskRef}
use Rattle.plant.specs.PlantValue.{PlantValue, ResourceValue, code_at}
use Rattle.evaluation.specs.Heard.{heard_numbers}
use Rattle.evaluation.specs.Last.{same_task}
use Rattle.evaluation.specs.Retained.{initial_retained}
use Rattle.exchange_core.specs.CoreValue.{AreOpeningOf}
use Rattle.world.specs.declared.event.Event.{Event}
use Rattle.world.specs.declared.event.Event.TheVariants.{Evaluate, Deliver, Restart, Hear}

-- for each resource and each of its tasks the values with which the task's retained variables open
abbrev pub Openings : Type 0
Openings = List (List (List Value))

-- What a run is over: the plant, the first incarnation of each resource, the openings of its tasks,
-- and the greatest number of an evaluation.
pub record Setting : Type 0 where
  pub plant : PlantValue
  pub first : List ℕ
  pub opening : Openings
  pub max_number : ℕ

-- the setting of this plant, these first incarnations, these openings and this greatest number
abbrev pub setting_over : PlantValue → List ℕ → Openings → ℕ → Setting
setting_over plant first opening max_number =
    record { plant = plant; first = first; opening = opening; max_number = max_number }

-- the openings of a resource's tasks
abbrev pub openings_at : Openings → ℕ → List (List Value)
openings_at opening n = slice_index_or opening n []

-- the opening of a task
abbrev pub opening_of : Setting → TaskRef → List Value
opening_of s t = slice_index_or (openings_at s.opening t.resource) t.task []

-- the openings of a plant of which nothing was kept: FALSE, 0 or T#0ms for each retained variable
abbrev pub initial_openings : PlantValue → Openings
initial_openings plant = map (λ (r : ResourceValue). map initial_retained r.codes) plant.resources

-- an opening for each task of each resource, of the kinds of the task's retained variables
pub record AreOpenings (plant : PlantValue) (opening : Openings) : Type 0 where
  pub many : length opening ≡ length plant.resources
  pub each : (n : ℕ) → AreOpeningOf plant n (openings_at opening n)

-- an evaluation
abbrev pub is_evaluate : Event → Bool
is_evaluate (Evaluate ticket task dt inputs) = true
is_evaluate (Deliver message resource) = false
is_evaluate (Restart resource) = false
is_evaluate (Hear resource of incarnation) = false

-- an evaluation of this task
abbrev pub is_evaluate_of : TaskRef → Event → Bool
is_evaluate_of t (Evaluate ticket task dt inputs) = same_task task t
is_evaluate_of t (Deliver message resource) = false
is_evaluate_of t (Restart resource) = false
is_evaluate_of t (Hear resource of incarnation) = false

-- a restart of this resource
abbrev pub is_restart_of : ℕ → Event → Bool
is_restart_of n (Evaluate ticket task dt inputs) = false
is_restart_of n (Deliver message resource) = false
is_restart_of n (Restart resource) = resource == n
is_restart_of n (Hear resource of incarnation) = false

-- a delivery of message k to resource n
abbrev pub is_deliver_of : ℕ → ℕ → Event → Bool
is_deliver_of k n (Evaluate ticket task dt inputs) = false
is_deliver_of k n (Deliver message resource) = message == k && resource == n
is_deliver_of k n (Restart resource) = false
is_deliver_of k n (Hear resource of incarnation) = false

-- the incarnation of m of which resource n hears by an event
abbrev pub heard_in : ℕ → ℕ → Event → Option ℕ
heard_in n m (Evaluate ticket task dt inputs) = None
heard_in n m (Deliver message resource) = None
heard_in n m (Restart resource) = None
heard_in n m (Hear resource of incarnation) = if resource == n && of == m then Some incarnation else None

-- the events after the last restart of a resource; all of them where there is none
abbrev pub since_restart : ℕ → List Event → List Event
since_restart n [] = []
since_restart n (e ∷ earlier) = if is_restart_of n e then [] else e ∷ since_restart n earlier

-- how many evaluations were made
abbrev pub made_count : List Event → ℕ
made_count history = length (filter is_evaluate history)

-- how many evaluations of a task were made since its resource's last restart
abbrev pub number_of : TaskRef → List Event → ℕ
number_of t history = length (filter (is_evaluate_of t) (since_restart t.resource history))

-- the present incarnation of a resource: its first one, and one more for each restart
abbrev pub incarnation_of : Setting → ℕ → List Event → ℕ
incarnation_of s n history = slice_index s.first n + length (filter (is_restart_of n) history)

-- the incarnations of m of which resource n has heard since its last restart
abbrev pub hearings_of : ℕ → ℕ → List Event → List ℕ
hearings_of n m history = filter_map (heard_in n m) (since_restart n history)

-- What resource n has heard, one number for each resource: of itself its present incarnation,
-- and of each other one the greatest of its first incarnation and of those of which it has heard since its last restart.
abbrev pub heard_by : Setting → ℕ → List Event → List ℕ
heard_by s n history = heard_numbers s.first n (incarnation_of s n history) (λ m. hearings_of n m history)

-- An event is lawful after a history: its resources, task or message exist,
-- its task's numbers or its resource's incarnations aren't spent,
-- and a resource of which is heard has had that incarnation, from its first one to its present one.
abbrev pub is_lawful : Setting → List Event → Event → Bool
is_lawful s history (Evaluate ticket task dt inputs) =
    is_some (code_at s.plant task) && nat_lt (number_of task history) s.max_number
is_lawful s history (Deliver message resource) =
    nat_lt resource (length s.plant.resources) && (nat_le 1 message && nat_le message (made_count history))
is_lawful s history (Restart resource) =
    nat_lt resource (length s.plant.resources) && nat_lt (incarnation_of s resource history) 4294967295
is_lawful s history (Hear resource of incarnation) =
    nat_lt resource (length s.plant.resources)
    && (nat_lt of (length s.plant.resources)
    && (nat_le (slice_index s.first of) incarnation && nat_le incarnation (incarnation_of s of history)))

-- the history after these events: each lawful one has happened, every other one has changed nothing
abbrev pub after_events : Setting → List Event → List Event → List Event
after_events s history [] = history
after_events s history (e ∷ es) = after_events s (if is_lawful s history e then e ∷ history else history) es

-- the history of a list of events from the beginning
abbrev pub history_of : Setting → List Event → List Event
history_of s events = after_events s [] events

-- the lawful ones among these events, in their order, after a history
abbrev pub lawful_among : Setting → List Event → List Event → List Event
lawful_among s history [] = []
lawful_among s history (e ∷ es) =
    if is_lawful s history e then e ∷ lawful_among s (e ∷ history) es else lawful_among s history es

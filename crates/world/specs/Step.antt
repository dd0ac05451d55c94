-- What one step does to a world.
use Rattle.std.specs.Prelude.{◌≡◌, ◌≢◌, ℕ, ◌<◌, ◌≤◌, ◌⊎◌, Bool, true, false, List, [], ◌∷◌, ◌++◌, Option, Some, None, is_some, length, nat_lt, reverse, slice_get, slice_index}
use Rattle.task_codes.specs.declared.task_ref.TaskRef.{TaskRef}
use Rattle.plant.specs.PlantValue.{code_at}
use Rattle.evaluation.specs.Meaning.{Evaluated}
use Rattle.evaluation.specs.Heard.{is_addressed}
use Rattle.exchange_core.specs.declared.accepted.Accepted.{Accepted}
use Rattle.exchange_core.specs.declared.accepted.Accepted.TheVariants.{Taken, Old, Unused, Stray}
use Rattle.world.specs.declared.event.Event.{Event}
use Rattle.world.specs.declared.event.Event.TheVariants.{Evaluate, Deliver, Restart, Hear}
use Rattle.world.specs.declared.done.Done.{Done}
use Rattle.world.specs.declared.done.Done.TheVariants.{Evaluated as MadeOne, Delivered, Restarted, Heard}
use Rattle.world.specs.declared.world_fault.WorldFault.{WorldFault}
use Rattle.world.specs.declared.world_fault.WorldFault.TheVariants.{NoSuchResource, NoSuchTask, NoSuchMessage, NumbersSpent, IncarnationsSpent, Memory, NeverHeld}
use Rattle.world.specs.History.{history_of, is_lawful, made_count, incarnation_of, number_of, heard_by, lawful_among}
use Rattle.world.specs.Run.{latest, message}
use Rattle.world.specs.World.{WorldValue, node_takes, latest_at}

-- the history of a world's events
abbrev pub history_at : WorldValue → List Event
history_at w = history_of w.setting w.events

-- an event is lawful after a world's events
abbrev pub is_lawful_at : WorldValue → Event → Bool
is_lawful_at w e = is_lawful w.setting (history_at w) e

-- a lawful event was done: it is the last of the events, and the log is this one
pub record IsDone (old new : WorldValue) (e : Event) (log : List Evaluated) : Type 0 where
  pub lawful : is_lawful_at old e ≡ true
  pub is : new ≡ record old { events = old.events ++ e ∷ []; log = log }

-- an Evaluate was done: one evaluation was added, which is message k
pub record IsEvaluatedNow (old new : WorldValue) (e : Event) (k : ℕ) : Type 0 where
  pub made : Evaluated
  pub done : IsDone old new e (old.log ++ made ∷ [])
  pub place : k ≡ length new.log

-- a resource of an event doesn't exist
abbrev pub LacksResource : WorldValue → Event → Type 0
LacksResource w (Evaluate ticket task dt inputs) = length w.setting.plant.resources ≤ task.resource
LacksResource w (Deliver message resource) = length w.setting.plant.resources ≤ resource
LacksResource w (Restart resource) = length w.setting.plant.resources ≤ resource
LacksResource w (Hear resource of incarnation) =
    (length w.setting.plant.resources ≤ resource) ⊎ (length w.setting.plant.resources ≤ of)

-- why an event is refused: the first cause that holds; memory is wanting only for a lawful one
abbrev pub IsCause : WorldValue → Event → WorldFault → Type 0
IsCause w e NoSuchResource = LacksResource w e
IsCause w (Evaluate ticket task dt inputs) NoSuchTask =
    (task.resource < length w.setting.plant.resources) × (code_at w.setting.plant task ≡ None)
IsCause w (Evaluate ticket task dt inputs) NumbersSpent =
    (is_some (code_at w.setting.plant task) ≡ true) × (w.setting.max_number ≤ number_of task (history_at w))
IsCause w (Deliver message resource) NoSuchMessage =
    (resource < length w.setting.plant.resources) × ((message ≡ 0) ⊎ (made_count (history_at w) < message))
IsCause w (Restart resource) IncarnationsSpent =
    (resource < length w.setting.plant.resources) × (4294967295 ≤ incarnation_of w.setting resource (history_at w))
IsCause w (Hear resource of incarnation) NeverHeld =
    (resource < length w.setting.plant.resources) × (of < length w.setting.plant.resources)
    × ((incarnation < slice_index w.setting.first of) ⊎ (incarnation_of w.setting of (history_at w) < incarnation))
IsCause w e Memory = is_lawful_at w e ≡ true
IsCause w e fault = ⊥

-- a lawful event is refused for want of memory alone
abbrev pub IsRefusedEvent : WorldValue → Event → WorldFault → Type 0
IsRefusedEvent w e fault = fault ≢ Memory → is_lawful_at w e ≡ false

-- the latest of task p at n after the delivery of message k to n
abbrev pub latest_with : WorldValue → ℕ → ℕ → TaskRef → Option Evaluated
latest_with w k n p = latest w.setting n (Deliver k n ∷ history_at w) p (reverse w.log)

-- an evaluation is addressed to the present incarnation of n
abbrev pub is_for_at : WorldValue → ℕ → Evaluated → Bool
is_for_at w n x = is_addressed x n (incarnation_of w.setting n (history_at w))

-- What the delivery to n of message k, the evaluation x of task p, answers:
-- Unused where p is of that resource or no task there takes from it;
-- else Stray where x isn't addressed to the present incarnation of n;
-- else Taken where the latest of p there changes by the delivery, and Old where it doesn't.
abbrev pub Answers : WorldValue → ℕ → ℕ → Evaluated → TaskRef → Accepted → Type 0
Answers w k n x p Unused = (p.resource ≡ n) ⊎ (node_takes w.setting.plant n p ≡ false)
Answers w k n x p Stray = (p.resource ≢ n) × (node_takes w.setting.plant n p ≡ true) × (is_for_at w n x ≡ false)
Answers w k n x p Taken =
    (p.resource ≢ n) × (node_takes w.setting.plant n p ≡ true) × (is_for_at w n x ≡ true)
    × (latest_with w k n p ≢ latest_at w n p)
Answers w k n x p Old =
    (p.resource ≢ n) × (node_takes w.setting.plant n p ≡ true) × (is_for_at w n x ≡ true)
    × (latest_with w k n p ≡ latest_at w n p)

-- what the delivery of message k to n answers
abbrev pub IsDelivered : WorldValue → ℕ → ℕ → Accepted → Type 0
IsDelivered w k n a = (x : Evaluated) × (message (reverse w.log) k ≡ Some x) × Answers w k n x x.name.task a

-- an incarnation of m is newer than the one of which n has heard
abbrev pub is_newer : WorldValue → ℕ → ℕ → ℕ → Bool
is_newer w n m incarnation = nat_lt (slice_index (heard_by w.setting n (history_at w)) m) incarnation

-- an event was done, and answered this
abbrev pub IsStep : WorldValue → WorldValue → Event → Done → Type 0
IsStep old new (Evaluate ticket task dt inputs) (MadeOne message) =
    IsEvaluatedNow old new (Evaluate ticket task dt inputs) message
IsStep old new (Deliver k n) (Delivered accepted) = IsDone old new (Deliver k n) old.log × IsDelivered old k n accepted
IsStep old new (Restart resource) (Restarted incarnation) =
    IsDone old new (Restart resource) old.log × (incarnation ≡ incarnation_of new.setting resource (history_at new))
IsStep old new (Hear n m incarnation) (Heard newer) =
    IsDone old new (Hear n m incarnation) old.log × (newer ≡ is_newer old n m incarnation)
IsStep old new e done = ⊥

-- event i of these is one that is lawful now
abbrev pub IsLawfulAt : WorldValue → List Event → ℕ → Type 0
IsLawfulAt w es i = (e : Event) × (slice_get es i ≡ Some e) × (is_lawful_at w e ≡ true)

-- these events were done, but for the unlawful ones
pub record HaveRun (old new : WorldValue) (es : List Event) : Type 0 where
  pub setting : new.setting ≡ old.setting
  pub events : new.events ≡ old.events ++ lawful_among old.setting (history_at old) es

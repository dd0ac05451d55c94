-- The consistency theorem: what holds of every list of events and of its run.
use Rattle.std.specs.Prelude.{◌≡◌, ℕ, true, List, ◌∷◌, ◌++◌, reverse, Some, slice_get, take}
use Rattle.task_codes.specs.declared.task_ref.TaskRef.{TaskRef}
use Rattle.plant.specs.PlantValue.{code_at}
use Rattle.evaluation.specs.declared.field_input.FieldInput.{FieldInput}
use Rattle.evaluation.specs.Meaning.{Evaluated, IsMeant}
use Rattle.world.specs.declared.event.Event.{Event}
use Rattle.world.specs.declared.event.Event.TheVariants.{Evaluate}
use Rattle.world.specs.History.{Setting, made_count, is_lawful, heard_by, history_of}
use Rattle.world.specs.Run.{IsRun, state_before}
use Rattle.world.specs.World.{WorldValue, world_of, latest_at, held_at}
use Rattle.world.specs.Consistent.{TakesOnly, NeverGoesBack, NeverFalls}

-- the world after the first events of a list whose run this is
abbrev pub world_after : (s : Setting) (before : List Event) (log : List Evaluated) → WorldValue
world_after s before log = world_of s before (take (made_count (history_of s before)) log)

-- How an evaluation of a run came about: x is the entry at place k.
pub record IsMade (s : Setting) (events : List Event) (log : List Evaluated) (k : ℕ) (x : Evaluated) : Type 0 where
  -- a lawful Evaluate of its task made it, behind these events
  pub before : List Event
  pub ticket : ℕ
  pub dt : ℕ
  pub inputs : List FieldInput
  pub later : List Event
  pub events_are : events ≡ before ++ Evaluate ticket x.name.task dt inputs ∷ later
  pub lawful : is_lawful s (history_of s before) (Evaluate ticket x.name.task dt inputs) ≡ true
  pub place : k ≡ made_count (history_of s before)
  -- it has heard what its resource had heard
  pub heard_is : x.heard ≡ heard_by s x.name.task.resource (history_of s before)
  -- all that it takes from one producer is of one evaluation of it, the latest addressed to the present incarnation of
  -- the taker's resource that had reached it; its inputs are initial if none had
  pub taken : (p : TaskRef) → TakesOnly x p (latest_at (world_after s before log) x.name.task.resource p)
  -- it started from the stored state: what the task's evaluation before left in this incarnation; if there was none,
  -- the initial state with the retained variables as the task's last evaluation of all left them, or as they open
  pub code_is : code_at s.plant x.name.task ≡ Some x.code
  pub stored : x.before
      ≡ state_before s x.code x.name.task (reverse (world_after s before log).log)
      (latest_at (world_after s before log) x.name.task.resource x.name.task)
  -- with the event's ticket, elapsed time and field inputs, its outputs and the state after are the meaning of that
  pub ticket_is : x.ticket ≡ ticket
  pub dt_is : x.dt ≡ dt
  pub inputs_are : x.inputs ≡ inputs
  pub meant : IsMeant x

-- resources that hold one evaluation hold equal values
abbrev pub HoldersAgreeIn : WorldValue → Type 0
HoldersAgreeIn w =
    (n m : ℕ) (p q : TaskRef) (x y : Evaluated) → held_at w n p ≡ Some x → held_at w m q ≡ Some y
    → x.name ≡ y.name → x ≡ y

-- what the theorem says of a list of events and its run
pub record IsDataConsistent (s : Setting) (events : List Event) (log : List Evaluated) : Type 0 where
  -- each evaluation took the latest that had reached its resource, started from the stored state,
  -- and is what that means
  pub made : (k : ℕ) (x : Evaluated) → slice_get log k ≡ Some x → IsMade s events log k x
  -- evaluations taken never go back, also across restarts of the taker
  pub never_falls : NeverFalls (reverse log)
  -- within an incarnation of the taker, to take nothing after something is to go back too
  pub never_back : NeverGoesBack (reverse log)
  -- resources that hold one evaluation hold equal values
  pub holders : HoldersAgreeIn (world_of s events log)

-- over every list of events
abbrev pub ConsistencyTheorem : Type 0
ConsistencyTheorem =
    (s : Setting) (events : List Event) (log : List Evaluated) → IsRun s events log → IsDataConsistent s events log

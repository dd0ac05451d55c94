-- What a node's keeper keeps of its tasks.
use Rattle.std.specs.Prelude.{◌≡◌, ◌≢◌, ◌⊎◌, ℕ, List, [], Some, Result, Ok, Err}
use Rattle.std_blocks.specs.declared.value.Value.{Value}
use Rattle.task_codes.specs.CodeValue.{CodeValue}
use Rattle.plant.specs.PlantValue.{code_at}
use Rattle.evaluation.specs.Last.{left_by}
use Rattle.evaluation.specs.Meaning.{Evaluated}
use Rattle.evaluation.specs.Retained.{retained_values, warm_state}
use Rattle.keepers.specs.Keepers.{Telling}
use Rattle.exchange_core.specs.MessageCoreValue.{MessageCoreValue, kept_at, own_last, own_task}
use Rattle.live_node.specs.declared.live_stop.LiveStop.{LiveStop}
use Rattle.live_node.specs.declared.live_stop.LiveStop.TheVariants.{Node, Read, Write, Memory}

-- what outlives a restart of one of a core's tasks: what its last evaluation left in the retained variables; where there is
-- none, what it began with
abbrev pub outliving : MessageCoreValue → ℕ → List Value
outliving core task = left_by (kept_at core task) (own_last core task)

-- Of each task of a core that has retained variables may be told what outlives a restart of it: so a start over this
-- keeper may open it with what its last evaluation left, or with what it began with, where it hasn't been evaluated since.
abbrev pub KeepsCore : Telling → MessageCoreValue → Type 0
KeepsCore tells core =
    (task : ℕ) (code : CodeValue) → code_at core.plant (own_task core task) ≡ Some code → code.retained ≢ []
    → tells task code (Ok (outliving core task))

-- what outlived a restart of a task before this evaluation: what the state before has in the retained variables; or the
-- values with which the task began, where that is the warm state of these
abbrev pub IsOutlived : CodeValue → List Value → Evaluated → List Value → Type 0
IsOutlived code kept x values =
    (values ≡ retained_values code x.before) ⊎ ((x.before ≡ warm_state code kept) × (values ≡ kept))

-- Of a task of a core may be told what outlived a restart of it before its last evaluation.
pub record TellsBefore (tells : Telling) (core : MessageCoreValue) (task : ℕ) (code : CodeValue) : Type 0 where
  pub last : Evaluated
  pub is_last : own_last core task ≡ Some last
  pub values : List Value
  pub outlived : IsOutlived code (kept_at core task) last values
  pub told : tells task code (Ok values)

-- Of each task of a core that has retained variables may be told what outlives a restart of it; or, of one at most, what
-- outlived a restart before its last evaluation.
abbrev pub KeepsAllButOne : Telling → MessageCoreValue → Type 0
KeepsAllButOne tells core =
    (one : ℕ)
    × ((task : ℕ) (code : CodeValue) → code_at core.plant (own_task core task) ≡ Some code → code.retained ≢ []
    → tells task code (Ok (outliving core task)) ⊎ ((task ≡ one) × TellsBefore tells core task code))

-- of each task of a core the same outlives a restart
pub record OutliveAlike (old new : MessageCoreValue) : Type 0 where
  pub plant_is : new.plant ≡ old.plant
  pub resource_is : new.resource ≡ old.resource
  pub each : (task : ℕ) (code : CodeValue) → code_at old.plant (own_task old task) ≡ Some code
      → outliving new task ≡ outliving old task

-- A task of a core was evaluated: of it outlives a restart what the evaluation left, and before it did what the evaluation
-- began with; of each other task outlives what did before.
pub record OutlivesMade (old new : MessageCoreValue) (x : Evaluated) : Type 0 where
  pub plant_is : new.plant ≡ old.plant
  pub resource_is : new.resource ≡ old.resource
  pub found : code_at old.plant (own_task old x.name.task.task) ≡ Some x.code
  pub last : own_last new x.name.task.task ≡ Some x
  pub began : IsOutlived x.code (kept_at new x.name.task.task) x (outliving old x.name.task.task)
  pub own : outliving new x.name.task.task ≡ retained_values x.code x.after
  pub others : (task : ℕ) → task ≢ x.name.task.task → outliving new task ≡ outliving old task

-- a node didn't fail itself: its lines ended or can't be read, or its answers written
abbrev pub HasNotFailed : {T : Type 0} → Result T LiveStop → Type 0
HasNotFailed (Ok done) = Unit {0}
HasNotFailed (Err (Node why)) = ⊥
HasNotFailed (Err Read) = Unit {0}
HasNotFailed (Err Write) = Unit {0}
HasNotFailed (Err Memory) = Unit {0}

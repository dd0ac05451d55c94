-- Which task of a resource is evaluated at which reading of a clock, and with which dt. Readings are whole ms since the
-- start, moments too.
use Rattle.std.specs.Prelude.{◌≡◌, ℕ, suc, ◌+◌, ◌-◌, ◌/◌, ◌<◌, ◌≤◌, Bool, false, nat_lt, min, List, [], ◌∷◌, Option, Some, None, set, slice_get, position, All}
use Rattle.std.specs.List.Sorted.{IsPermutation, IsSorted}
use Rattle.std.specs.Ordering.{nat_cmp, ordering_then}
use Rattle.std.specs.declared.cmp.Ordering.{Ordering}
use Rattle.plant.specs.PlantValue.{TaskValue}
use Rattle.cycle.specs.declared.asked.Asked.{Asked}
use Rattle.cycle.specs.declared.cycled_task.CycledTask.{CycledTask}

-- how many due moments a task has up to a reading: the positive multiples of its interval
abbrev pub due_moments : ℕ → ℕ → ℕ
due_moments interval reading = reading / interval

-- a task is due at a reading: one of its due moments came since its last evaluation
abbrev pub is_due : ℕ → CycledTask → Bool
is_due reading t = nat_lt (due_moments t.interval t.evaluated) (due_moments t.interval reading)

-- a task isn't due at any reading before a moment
abbrev pub NoneDueBefore : ℕ → CycledTask → Type 0
NoneDueBefore moment t = (reading : ℕ) → reading < moment → is_due reading t ≡ false

-- the dt of an evaluation at a reading: the ms since the one before; of more than 4294967295 the rest counts for the next one
abbrev pub dt_at : ℕ → CycledTask → ℕ
dt_at reading t = min (reading - t.evaluated) 4294967295

-- a task behind its evaluation at a reading
abbrev pub evaluated_at : ℕ → CycledTask → CycledTask
evaluated_at reading t =
    record { priority = t.priority; task = t.task; interval = t.interval; evaluated = t.evaluated + dt_at reading t }

-- how many due moments an evaluation at a reading skips: those that came since the one before, but for one
abbrev pub skipped_at : ℕ → CycledTask → ℕ
skipped_at reading t = due_moments t.interval (t.evaluated + dt_at reading t) - due_moments t.interval t.evaluated - 1

-- an evaluation at a reading
abbrev pub asked_at : ℕ → CycledTask → Asked
asked_at reading t = record { task = t.task; dt = dt_at reading t; skipped = skipped_at reading t }

-- A cycle: its tasks, by priority and then in order of declaration; the reading at which its round began; its latest reading.
-- A round is that each task that is due where it begins is evaluated once.
pub record CycleValue : Type 0 where
  pub tasks : List CycledTask
  pub round : ℕ
  pub latest : ℕ

-- the cycle of these parts
abbrev pub cycle_of : List CycledTask → ℕ → ℕ → CycleValue
cycle_of tasks round latest = record { tasks = tasks; round = round; latest = latest }

-- no task has the interval 0
abbrev pub AllPositive : List CycledTask → Type 0
AllPositive tasks = All (λ (t : CycledTask). 0 < t.interval) tasks

-- no interval has more than 32 bits
abbrev pub AllNarrow : List CycledTask → Type 0
AllNarrow tasks = All (λ (t : CycledTask). t.interval ≤ 4294967295) tasks

-- no task was evaluated behind a reading
abbrev pub AllReached : ℕ → List CycledTask → Type 0
AllReached reading tasks = All (λ (t : CycledTask). t.evaluated ≤ reading) tasks

-- what is so of each cycle
pub record IsCycle (c : CycleValue) : Type 0 where
  pub positive : AllPositive c.tasks
  pub narrow : AllNarrow c.tasks
  pub reached : AllReached c.latest c.tasks
  pub begun : c.round ≤ c.latest

-- these tasks, in order of declaration, of which the first stands at this place; none is evaluated
abbrev pub declared_from : ℕ → List TaskValue → List CycledTask
declared_from place [] = []
declared_from place (t ∷ more) =
    record { priority = t.priority; task = place; interval = t.interval; evaluated = 0 } ∷ declared_from (suc place) more

-- the tasks of a resource in order of declaration
abbrev pub declared : List TaskValue → List CycledTask
declared tasks = declared_from 0 tasks

-- by priority, and then by place
abbrev pub cycled_cmp : CycledTask → CycledTask → Ordering
cycled_cmp a b =
    ordering_then (nat_cmp a.priority b.priority)
    (ordering_then (nat_cmp a.task b.task)
    (ordering_then (nat_cmp a.interval b.interval) (nat_cmp a.evaluated b.evaluated)))

-- A cycle at its start: the tasks of a resource by priority and then in order of declaration.
pub record IsCycleOf (tasks : List TaskValue) (c : CycleValue) : Type 0 where
  pub each_once : IsPermutation (declared tasks) c.tasks
  pub in_order : IsSorted cycled_cmp c.tasks
  pub round_is : c.round ≡ 0
  pub latest_is : c.latest ≡ 0

-- The round goes on while a task is due that was due where it began; else the next one begins at this reading.
abbrev pub round_from : Option ℕ → ℕ → ℕ → ℕ
round_from None round reading = reading
round_from (Some place) round reading = round

abbrev pub round_at : CycleValue → ℕ → ℕ
round_at c reading = round_from (position (is_due c.round) c.tasks) c.round reading

-- the one place, or where there is none the other
abbrev pub place_or : Option ℕ → Option ℕ → Option ℕ
place_or None other = other
place_or (Some place) other = Some place

-- the place of the task that is evaluated at a reading: the first that is due of those of the round; where none is, of all
abbrev pub place_at : CycleValue → ℕ → Option ℕ
place_at c reading = place_or (position (is_due c.round) c.tasks) (position (is_due reading) c.tasks)

-- a task is evaluated at a reading
pub record HasEvaluated (old new : CycleValue) (reading : ℕ) (asked : Asked) : Type 0 where
  pub place : ℕ
  pub first : place_at old reading ≡ Some place
  pub task : CycledTask
  pub stands : slice_get old.tasks place ≡ Some task
  pub asked_is : asked ≡ asked_at reading task
  pub new_is : new ≡ cycle_of (set old.tasks place (evaluated_at reading task)) (round_at old reading) reading

-- What a cycle asks for at a reading: an evaluation of the first task that is due; nothing, where none is.
abbrev pub IsAsked : CycleValue → CycleValue → ℕ → Option Asked → Type 0
IsAsked old new reading None = (place_at old reading ≡ None) × (new ≡ cycle_of old.tasks reading reading)
IsAsked old new reading (Some asked) = HasEvaluated old new reading asked

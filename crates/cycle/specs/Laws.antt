-- What follows of the evaluations that a cycle asks for.
use Rattle.std.specs.Prelude.{◌≡◌, ◌≢◌, ℕ, ◌+◌, ◌*◌, ◌<◌, ◌≤◌, ◌==◌, ◌⊎◌, if◌then◌else◌, true, false, max, List, [], ◌∷◌, Option, Some, None, length, slice_get, sum_by}
use Rattle.std.specs.Ordering.{is_lt}
use Rattle.std.specs.declared.cmp.Ordering.TheVariants.{Less}
use Rattle.task_codes.specs.declared.due.Due.{Due}
use Rattle.task_codes.specs.declared.timing.Timing.{Timing}
use Rattle.task_codes.specs.Plan.{due_cmp, timing_at, IsDue}
use Rattle.cycle.specs.declared.asked.Asked.{Asked}
use Rattle.cycle.specs.declared.cycled_task.CycledTask.{CycledTask}
use Rattle.cycle.specs.Cycle.{CycleValue, cycled_cmp, due_moments, evaluated_at, is_due, HasEvaluated, IsAsked, IsCycle}

-- readings of a clock, and what is asked for at each
abbrev pub Step : Type 0
Step = ℕ × Option Asked

-- a cycle was asked at these readings, one after the other, and asked for this
abbrev pub HaveAsked : CycleValue → List Step → CycleValue → Type 0
HaveAsked first [] last = last ≡ first
HaveAsked first (s ∷ more) last =
    (mid : CycleValue) × IsAsked first mid (max first.latest s.0) s.1 × HaveAsked mid more last

-- The k-th due moment is k intervals behind the start.
abbrev pub DueMomentsAreMultiples : Type 0
DueMomentsAreMultiples =
    (interval reading k : ℕ) → 0 < interval
    → (k ≤ due_moments interval reading → k * interval ≤ reading) × (k * interval ≤ reading → k ≤ due_moments interval reading)

-- No task is evaluated before it is due: between two evaluations of it, and before the first, lies a multiple of its interval.
abbrev pub NeverEarly : Type 0
NeverEarly =
    (old new : CycleValue) (reading : ℕ) (asked : Asked) → IsCycle old → old.latest ≤ reading
    → (h : HasEvaluated old new reading asked)
    → (k : ℕ) × (h.task.evaluated < k * h.task.interval) × (k * h.task.interval ≤ reading)

-- Its time is counted up to the reading at which it is evaluated, but for more than 4294967295 ms.
abbrev pub CountsToReading : Type 0
CountsToReading =
    (old new : CycleValue) (reading : ℕ) (asked : Asked) → IsCycle old → old.latest ≤ reading
    → (h : HasEvaluated old new reading asked) → asked.dt < 4294967295 → (evaluated_at reading h.task).evaluated ≡ reading

-- the dt of a task
abbrev pub dt_of : ℕ → Option Asked → ℕ
dt_of n None = 0
dt_of n (Some a) = if a.task == n then a.dt else 0

-- the sum of the dts of a task
abbrev pub dts : ℕ → List Step → ℕ
dts n [] = 0
dts n (s ∷ more) = dt_of n s.1 + dts n more

-- up to which moment the time of the task at a place of the resource is counted
abbrev pub counted_of : ℕ → CycledTask → ℕ
counted_of n t = if t.task == n then t.evaluated else 0

abbrev pub counted : ℕ → List CycledTask → ℕ
counted n tasks = sum_by (counted_of n) tasks

-- The dts of a task add up to the time that is counted.
abbrev pub DtsAddUp : Type 0
DtsAddUp =
    (n : ℕ) (first last : CycleValue) (steps : List Step) → HaveAsked first steps last
    → counted n last.tasks ≡ counted n first.tasks + dts n steps

-- how many due moments of a task are done with by what is asked for: one by the evaluation, and those skipped
abbrev pub done_of : ℕ → Option Asked → ℕ
done_of n None = 0
done_of n (Some a) = if a.task == n then a.skipped + 1 else 0

abbrev pub done_moments : ℕ → List Step → ℕ
done_moments n [] = 0
done_moments n (s ∷ more) = done_of n s.1 + done_moments n more

-- how many due moments of the task at a place came up to where its time is counted
abbrev pub moments_of : ℕ → CycledTask → ℕ
moments_of n t = if t.task == n then due_moments t.interval t.evaluated else 0

abbrev pub moments : ℕ → List CycledTask → ℕ
moments n tasks = sum_by (moments_of n) tasks

-- Each due moment of a task is done with by one evaluation: it is evaluated, or told as skipped, and none is told twice.
abbrev pub SkipsAreCounted : Type 0
SkipsAreCounted =
    (n : ℕ) (first last : CycleValue) (steps : List Step) → IsCycle first → HaveAsked first steps last
    → moments n last.tasks ≡ moments n first.tasks + done_moments n steps

-- what is asked for has a dt below 4294967295
abbrev pub IsShort : Option Asked → Type 0
IsShort None = Unit {0}
IsShort (Some a) = a.dt < 4294967295

abbrev pub AreShort : List Step → Type 0
AreShort [] = Unit {0}
AreShort (s ∷ more) = IsShort s.1 × AreShort more

-- the task at a place of the resource is asked for at one of these readings
abbrev pub IsTask : ℕ → Option Asked → Type 0
IsTask n None = ⊥
IsTask n (Some a) = a.task ≡ n

abbrev pub AskFor : ℕ → List Step → Type 0
AskFor n [] = ⊥
AskFor n (s ∷ more) = IsTask n s.1 ⊎ AskFor n more

-- A task that is due is asked for after twice as many readings as there are tasks, at the latest, however late the others are.
abbrev pub DueTasksAreAsked : Type 0
DueTasksAreAsked =
    (first last : CycleValue) (steps : List Step) (place : ℕ) (t : CycledTask) → IsCycle first → HaveAsked first steps last → AreShort steps
    → slice_get first.tasks place ≡ Some t → is_due first.latest t ≡ true → 2 * length first.tasks ≤ length steps → AskFor t.task steps

-- the entry of a plan for a task of a resource
abbrev pub entry : ℕ → ℕ → CycledTask → Due
entry n moment t = record { moment = moment; task = record { resource = n; task = t.task } }

-- a task of a resource has the timing that a plan has for it
abbrev pub IsTimed : List (List Timing) → ℕ → CycledTask → Type 0
IsTimed timings n t =
    timing_at timings (record { resource = n; task = t.task })
    ≡ Some (record { interval = t.interval; priority = t.priority })

-- A task is due at a reading exactly where the plan up to that has an entry of it behind its last evaluation.
abbrev pub DueAsPlanned : Type 0
DueAsPlanned =
    (timings : List (List Timing)) (n : ℕ) (t : CycledTask) (reading : ℕ) → 0 < t.interval → IsTimed timings n t
    → (is_due reading t ≡ true → (moment : ℕ) × (t.evaluated < moment) × IsDue timings reading (entry n moment t))
    × ((moment : ℕ) → t.evaluated < moment → IsDue timings reading (entry n moment t) → is_due reading t ≡ true)

-- Of two tasks of a resource that are due at one moment, the one that a cycle has first stands first in the plan.
abbrev pub OrderAsPlanned : Type 0
OrderAsPlanned =
    (timings : List (List Timing)) (n moment : ℕ) (a b : CycledTask) → IsTimed timings n a → IsTimed timings n b
    → a.task ≢ b.task → is_lt (cycled_cmp b a) ≡ false → due_cmp timings (entry n moment a) (entry n moment b) ≡ Less

-- The plan of the tasks of some resources: what is due, and when.
use Rattle.std.specs.Prelude.{◌≡◌, ℕ, ◌<◌, ◌≤◌, ◌*◌, List, [], Option, Some, map, slice_get, unwrap_or, length, All, AllPairs, Contains}
use Rattle.std.specs.Global.{Vec}
use Rattle.std.specs.Option.{option_map}
use Rattle.std.specs.Ordering.{nat_cmp, ordering_then}
use Rattle.std.specs.declared.cmp.Ordering.{Ordering}
use Rattle.std.specs.declared.cmp.Ordering.TheVariants.{Less}
use Rattle.task_codes.specs.declared.due.Due.{Due}
use Rattle.task_codes.specs.declared.task_ref.TaskRef.{TaskRef}
use Rattle.task_codes.specs.declared.timing.Timing.{Timing}

-- the tasks of each resource, in order
abbrev pub timings_in : List (Vec Timing) → List (List Timing)
timings_in resources = map (λ (v : Vec Timing). v.items) resources

-- no task has the interval 0
abbrev pub AllTimed : List Timing → Type 0
AllTimed tasks = All (λ (t : Timing). 0 < t.interval) tasks

-- the tasks of a resource; none where there is no such resource
abbrev pub timings_at : List (List Timing) → ℕ → List Timing
timings_at resources resource = unwrap_or (slice_get resources resource) []

-- when a task is due
abbrev pub timing_at : List (List Timing) → TaskRef → Option Timing
timing_at resources t = slice_get (timings_at resources t.resource) t.task

-- a pair of a moment and a task: the moment is a positive multiple of the task's interval, up to and with until
pub record IsDue (resources : List (List Timing)) (until : ℕ) (d : Due) : Type 0 where
  pub timing : Timing
  pub stands : timing_at resources d.task ≡ Some timing
  pub times : ℕ
  pub multiple : d.moment ≡ times * timing.interval
  pub begun : 0 < d.moment
  pub within : d.moment ≤ until

-- the priority of a task
abbrev pub priority_at : List (List Timing) → TaskRef → ℕ
priority_at resources t = unwrap_or (option_map (λ (found : Timing). found.priority) (timing_at resources t)) 0

-- by moment, priority, resource and task
abbrev pub due_cmp : List (List Timing) → Due → Due → Ordering
due_cmp resources a b =
    ordering_then (nat_cmp a.moment b.moment)
    (ordering_then (nat_cmp (priority_at resources a.task) (priority_at resources b.task))
    (ordering_then (nat_cmp a.task.resource b.task.resource) (nat_cmp a.task.task b.task.task)))

-- the plan: what is due up to and with until, all of it, each entry before all that follow it, so none of them twice
pub record IsPlanOf (resources : List (List Timing)) (until : ℕ) (dues : List Due) : Type 0 where
  pub each : All (IsDue resources until) dues
  pub whole : (d : Due) → IsDue resources until d → Contains dues d
  pub in_order : AllPairs (λ a b. due_cmp resources a b ≡ Less) dues

-- the plan of these tasks, with 100,000 entries at most
abbrev pub IsShortPlanOf : List (List Timing) → ℕ → List Due → Type 0
IsShortPlanOf resources until dues = IsPlanOf resources until dues × (length dues ≤ 100000)

-- the plan of these tasks has more than 100,000 entries
abbrev pub HasLongPlan : List (List Timing) → ℕ → Type 0
HasLongPlan resources until = (dues : List Due) × IsPlanOf resources until dues × (100000 < length dues)

-- there is one plan
abbrev pub OnePlan : Type 0
OnePlan =
    (resources : List (List Timing)) (until : ℕ) (a b : List Due) → IsPlanOf resources until a
    → IsPlanOf resources until b → a ≡ b

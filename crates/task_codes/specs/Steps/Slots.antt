-- The tasks in a row, and what is due of them.
use Rattle.std.specs.Prelude.{ℕ, zero, suc, ◌<◌, ◌%◌, ◌==◌, Bool, List, [], ◌∷◌, ◌++◌, map, length, slice_get, Option, Some, None, IsFalse, All}
use Rattle.std.specs.List.{filter}
use Rattle.std.specs.Ordering.{nat_cmp, ordering_then}
use Rattle.std.specs.declared.cmp.Ordering.{Ordering}
use Rattle.task_codes.specs.declared.slot.Slot.{Slot}
use Rattle.task_codes.specs.declared.due.Due.{Due}
use Rattle.task_codes.specs.declared.timing.Timing.{Timing}
use Rattle.task_codes.specs.Plan.{timings_at}

-- a task at its place
abbrev pub slot_of : ℕ → ℕ → Timing → Slot
slot_of r k t = record { priority = t.priority; resource = r; task = k; interval = t.interval }

abbrev pub slot_at : ℕ → ℕ → Option Timing → List Slot
slot_at r k None = []
slot_at r k (Some t) = slot_of r k t ∷ []

-- the first n tasks of resource r
abbrev pub slots_within : ℕ → List Timing → ℕ → List Slot
slots_within r ts zero = []
slots_within r ts (suc n) = slots_within r ts n ++ slot_at r n (slice_get ts n)

-- all tasks of resource r
abbrev pub slots_in : ℕ → List Timing → List Slot
slots_in r ts = slots_within r ts (length ts)

-- the tasks of the first n resources
abbrev pub slots_before : List (List Timing) → ℕ → List Slot
slots_before resources zero = []
slots_before resources (suc n) =
    slots_before resources n ++ slots_within n (timings_at resources n) (length (timings_at resources n))

-- all tasks
abbrev pub slots_of : List (List Timing) → List Slot
slots_of resources = slots_before resources (length resources)

-- none has the interval 0
abbrev pub HaveIntervals : List Slot → Type 0
HaveIntervals slots = All (λ s. 0 < s.interval) slots

-- a multiple of the interval
abbrev pub is_due : ℕ → Slot → Bool
is_due moment s = moment % s.interval == 0

-- strictly between two moments the task isn't due
abbrev pub NoneDue : Slot → ℕ → ℕ → Type 0
NoneDue s from to = (m : ℕ) → from < m → m < to → IsFalse (is_due m s)

-- the entry of a task at a moment
abbrev pub due_of : ℕ → Slot → Due
due_of moment s = record { moment = moment; task = record { resource = s.resource; task = s.task } }

-- what is due at a moment
abbrev pub dues_at : List Slot → ℕ → List Due
dues_at order moment = map (due_of moment) (filter (is_due moment) order)

-- what is due at the moments from 1 to until
abbrev pub dues_until : List Slot → ℕ → List Due
dues_until order zero = []
dues_until order (suc n) = dues_until order n ++ dues_at order (suc n)

-- with more entries behind these they are more than 100,000
abbrev pub AreTooMany : List Due → List Due → Type 0
AreTooMany dues more = 100000 < length (dues ++ more)

-- by priority, resource and task
abbrev pub slot_cmp : Slot → Slot → Ordering
slot_cmp a b =
    ordering_then (nat_cmp a.priority b.priority)
    (ordering_then (nat_cmp a.resource b.resource)
    (ordering_then (nat_cmp a.task b.task) (nat_cmp a.interval b.interval)))

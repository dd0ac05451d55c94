-- When moments begin, in ms from the start.
use Rattle.std.specs.Prelude.{◌≡◌, ℕ, ◌+◌, ◌-◌, ◌*◌, ◌^◌, ◌<◌, ◌≤◌, ◌==◌, if◌then◌else◌, List, slice_get}
use Rattle.std.specs.Option.{option_map_or}
use Rattle.task_codes.specs.declared.due.Due.{Due}
use Rattle.traces.specs.declared.times.Times.{Times}
use Rattle.traces.specs.declared.times.Times.TheVariants.{Each, Planned}

-- each moment lasts so many ms
abbrev pub each : ℕ → ℕ → ℕ
each step k = step * k

-- the first moment is at 0 ms, before a plan; then each entry of the plan is one, at its own moment; the last one lasts up to
-- 1 ms past the plan's end
abbrev pub planned : List Due → ℕ → ℕ → ℕ
planned dues until k =
    if k == 0 then 0 else option_map_or (λ (d : Due). d.moment) (slice_get dues (k - 1)) (until + 1)

abbrev pub time_of : Times → ℕ → ℕ
time_of (Each step) = each step
time_of (Planned dues until) = planned dues.now until

-- so many moments begin at 0 ms and one after the other, or several at once; the end of the last one is below 2 ^ 64
pub record AreTimes (time : ℕ → ℕ) (moments : ℕ) : Type 0 where
  pub first : time 0 ≡ 0
  pub order : (k : ℕ) → k < moments → time k ≤ time (k + 1)
  pub small : time moments < 2 ^ 64

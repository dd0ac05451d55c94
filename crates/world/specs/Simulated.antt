-- What `simulate` leaves.
use Rattle.std.specs.Prelude.{◌≡◌, ℕ, ◌+◌, ◌<◌, List, Option, Some, length, take, replicate, slice_get}
use Rattle.std.specs.Io.KnownBytes.{Appends}
use Rattle.plant.specs.PlantValue.{PlantValue}
use Rattle.world.specs.declared.event.Event.{Event}
use Rattle.world.specs.History.{Setting, setting_over, history_of, initial_openings}
use Rattle.world.specs.declared.simulation.Simulated.{Simulated}
use Rattle.world.specs.declared.sim_fault.SimFault.{SimFault}
use Rattle.world.specs.declared.sim_fault.SimFault.TheVariants.{Syntax, Write, Memory}
use Rattle.world.specs.RunText.{IsRunText}
use Rattle.world.specs.ScheduleText.{Spell, IsSchedule, IsBadLine, schedule_lines}

-- all first incarnations are 1, and nothing was kept of any task
abbrev pub from_one : PlantValue → ℕ → Setting
from_one plant max_number =
    setting_over plant (replicate (length plant.resources) 1) (initial_openings plant) max_number

-- the schedule spells these events, and what was written is the text of their run and nothing else
pub record WritesRun (plant : PlantValue) (max_number : ℕ) (schedule : List ℕ)
    (old new : Option (List ℕ)) : Type 0 where
  pub events : List Event
  pub spelled : IsSchedule plant events schedule
  pub text : List ℕ
  pub told : IsRunText (from_one plant max_number) events text
  pub written : Appends old new text

-- The schedule was done so, and this stands at its end: the history is that of its events, and there were so many.
pub record HasRun (plant : PlantValue) (max_number : ℕ) (schedule : List ℕ) (old new : Option (List ℕ))
    (ended : Simulated) : Type 0 where
  pub run : WritesRun plant max_number schedule old new
  pub setting : ended.world.setting ≡ from_one plant max_number
  pub history : history_of (from_one plant max_number) ended.world.events ≡ history_of (from_one plant max_number) run.events
  pub number : ended.events ≡ length run.events

-- the first n lines spell these events, and this is the text of their run
pub record RunsFirst (plant : PlantValue) (max_number : ℕ) (schedule : List ℕ) (n : ℕ) (text : List ℕ) : Type 0 where
  pub events : List Event
  pub spelled : Spell plant events (take n (schedule_lines schedule))
  pub told : IsRunText (from_one plant max_number) events text

-- line n, counted from 1, is the first that is no event, comment or blank, and what was written is the lines of the
-- events before it
pub record StopsAt (plant : PlantValue) (max_number : ℕ) (schedule : List ℕ) (n : ℕ)
    (old new : Option (List ℕ)) : Type 0 where
  pub before : ℕ
  pub number_is : n ≡ before + 1
  pub text : List ℕ
  pub run : RunsFirst plant max_number schedule before text
  pub line : List (List ℕ)
  pub line_is : slice_get (schedule_lines schedule) before ≡ Some line
  pub bad : IsBadLine plant (length run.events + 1) line
  pub written : Appends old new text

-- a beginning of the lines of some first events was written, and not all of them
pub record WritesBeginning (plant : PlantValue) (max_number : ℕ) (schedule : List ℕ)
    (old new : Option (List ℕ)) : Type 0 where
  pub lines : ℕ
  pub text : List ℕ
  pub run : RunsFirst plant max_number schedule lines text
  pub bytes : ℕ
  pub less : bytes < length text
  pub written : Appends old new (take bytes text)

-- the lines of some first events were written
pub record WritesFirst (plant : PlantValue) (max_number : ℕ) (schedule : List ℕ)
    (old new : Option (List ℕ)) : Type 0 where
  pub lines : ℕ
  pub text : List ℕ
  pub run : RunsFirst plant max_number schedule lines text
  pub written : Appends old new text

-- what each fault means, and what was written before
abbrev pub EndsEarly : PlantValue → ℕ → List ℕ → Option (List ℕ) → Option (List ℕ) → SimFault → Type 0
EndsEarly plant max_number schedule old new (Syntax line) = StopsAt plant max_number schedule line old new
EndsEarly plant max_number schedule old new Write = WritesBeginning plant max_number schedule old new
EndsEarly plant max_number schedule old new Memory = WritesFirst plant max_number schedule old new

-- What `test_schedule` leaves.
use Rattle.std.specs.Prelude.{◌≡◌, ℕ, ◌+◌, ◌<◌, true, false, Bool, List, Option, Some, length, reverse, slice_get, take}
use Rattle.std.specs.Io.KnownBytes.{Appends}
use Rattle.plant.specs.PlantValue.{PlantValue}
use Rattle.world.specs.declared.event.Event.{Event}
use Rattle.world.specs.declared.sim_fault.SimFault.{SimFault}
use Rattle.world.specs.declared.sim_fault.SimFault.TheVariants.{Syntax, Write, Memory}
use Rattle.world.specs.declared.simulation.Simulated.{Simulated}
use Rattle.world.specs.History.{Setting, history_of}
use Rattle.world.specs.ScheduleText.{IsBadLine, Spell, schedule_lines}
use Rattle.world.specs.Simulated.{from_one}
use Rattle.tested_schedules.specs.declared.tested.Tested.{Tested}
use Rattle.tested_schedules.specs.Expectations.{IsUnexpected, expected_words, is_expectation}
use Rattle.tested_schedules.specs.TestedText.{IsTested, event_lines}

-- what stands at the end: the history is that of the events that the lines spell, EXPECT lines aside, and there were so
-- many
pub record HasEnded (s : Setting) (lines : List (List (List ℕ))) (ended : Simulated) : Type 0 where
  pub events : List Event
  pub spelled : Spell s.plant events (event_lines (reverse lines))
  pub setting : ended.world.setting ≡ s
  pub history : history_of s ended.world.events ≡ history_of s events
  pub number : ended.events ≡ length events

-- the text of a schedule was written, and nothing else; this stands at its end
pub record HasTested (plant : PlantValue) (max_number : ℕ) (schedule : List ℕ) (old new : Option (List ℕ)) (tested : Tested)
    : Type 0 where
  pub text : List ℕ
  pub told : IsTested (from_one plant max_number) (schedule_lines schedule) text tested.has_unmet
  pub written : Appends old new text
  pub ended : HasEnded (from_one plant max_number) (schedule_lines schedule) tested.ended

-- the text of the first n lines
pub record TestsFirst (plant : PlantValue) (max_number : ℕ) (schedule : List ℕ) (n : ℕ) (text : List ℕ) : Type 0 where
  pub unmet : Bool
  pub told : IsTested (from_one plant max_number) (take n (schedule_lines schedule)) text unmet

-- a line spells neither an event of this number nor expectations, and it is no comment and not blank
pub record IsNoLine (plant : PlantValue) (number : ℕ) (line : List (List ℕ)) : Type 0 where
  pub event : is_expectation line ≡ false → IsBadLine plant number line
  pub unexpected : is_expectation line ≡ true → IsUnexpected plant (expected_words line)

-- line n, counted from 1, is the first that is none, and what was written is the text of those before it
pub record StopsAt (plant : PlantValue) (max_number : ℕ) (schedule : List ℕ) (n : ℕ) (old new : Option (List ℕ)) : Type 0
  where
    pub before : ℕ
    pub number_is : n ≡ before + 1
    pub text : List ℕ
    pub first : TestsFirst plant max_number schedule before text
    pub events : List Event
    pub spelled : Spell plant events (event_lines (reverse (take before (schedule_lines schedule))))
    pub line : List (List ℕ)
    pub line_is : slice_get (schedule_lines schedule) before ≡ Some line
    pub bad : IsNoLine plant (length events + 1) line
    pub written : Appends old new text

-- a beginning of the text of some first lines was written, and not all of it
pub record WritesBeginning (plant : PlantValue) (max_number : ℕ) (schedule : List ℕ) (old new : Option (List ℕ)) : Type 0
  where
    pub lines : ℕ
    pub text : List ℕ
    pub first : TestsFirst plant max_number schedule lines text
    pub bytes : ℕ
    pub less : bytes < length text
    pub written : Appends old new (take bytes text)

-- the text of some first lines was written
pub record WritesFirst (plant : PlantValue) (max_number : ℕ) (schedule : List ℕ) (old new : Option (List ℕ)) : Type 0 where
  pub lines : ℕ
  pub text : List ℕ
  pub first : TestsFirst plant max_number schedule lines text
  pub written : Appends old new text

-- what each fault means, and what was written before
abbrev pub EndsEarly : PlantValue → ℕ → List ℕ → Option (List ℕ) → Option (List ℕ) → SimFault → Type 0
EndsEarly plant max_number schedule old new (Syntax line) = StopsAt plant max_number schedule line old new
EndsEarly plant max_number schedule old new Write = WritesBeginning plant max_number schedule old new
EndsEarly plant max_number schedule old new Memory = WritesFirst plant max_number schedule old new

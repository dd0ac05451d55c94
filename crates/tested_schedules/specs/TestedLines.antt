-- What `test_in_turns` leaves: a schedule with EXPECT lines that a source gives line by line.
use Rattle.std.specs.Prelude.{◌≡◌, ℕ, ◌+◌, ◌≤◌, ◌++◌, ◌⊎◌, Bool, List, Option, Some, length, slice_get}
use Rattle.std.specs.Io.KnownBytes.{Appends, Consumes, IsAtEnd}
use Rattle.words.specs.Lines.{lines_of}
use Rattle.plant.specs.PlantValue.{PlantValue}
use Rattle.text_lines.specs.Lines.{HasNoFeed}
use Rattle.tested_schedules.specs.declared.live_fault.LiveFault.{LiveFault}
use Rattle.tested_schedules.specs.declared.live_fault.LiveFault.TheVariants.{Syntax, TooLong, Read, Write, Memory}
use Rattle.world.specs.ScheduleText.{schedule_lines}
use Rattle.world.specs.Simulated.{from_one}
use Rattle.tested_schedules.specs.declared.tested.Tested.{Tested}
use Rattle.tested_schedules.specs.TestedText.{IsTested}
use Rattle.tested_schedules.specs.Tested.{HasTested, StopsAt, TestsFirst, WritesBeginning, WritesFirst}

-- all that the source had left is a schedule, which was done so
pub record HasTestedLines (plant : PlantValue) (max_number : ℕ) (given left old new : Option (List ℕ)) (tested : Tested)
    : Type 0 where
  pub schedule : List ℕ
  pub read : Consumes given left schedule
  pub end : IsAtEnd left
  pub run : HasTested plant max_number schedule old new tested

-- the text of a schedule was written, and nothing else
pub record WritesTested (plant : PlantValue) (max_number : ℕ) (schedule : List ℕ) (old new : Option (List ℕ)) : Type 0 where
  pub text : List ℕ
  pub unmet : Bool
  pub told : IsTested (from_one plant max_number) (schedule_lines schedule) text unmet
  pub written : Appends old new text

-- what was read so far is a schedule, and what was written is its text and nothing else
pub record HasAnswered (plant : PlantValue) (max_number : ℕ) (given left old new : Option (List ℕ)) : Type 0 where
  pub schedule : List ℕ
  pub read : Consumes given left schedule
  pub run : WritesTested plant max_number schedule old new

-- line n of what was read, counted from 1, is this one, and the last
abbrev pub IsLastLine : List ℕ → ℕ → List ℕ → Type 0
IsLastLine schedule n line =
    (before : ℕ) × (n ≡ before + 1) × (length (lines_of schedule) ≡ n)
    × (slice_get (lines_of schedule) before ≡ Some line)

-- line n of what was read, counted from 1, has more than 1,000,000 bytes, of which one more was read; what was written
-- is the text of those before it
pub record StopsWithin (plant : PlantValue) (max_number : ℕ) (schedule : List ℕ) (n : ℕ) (old new : Option (List ℕ)) : Type 0
  where
    pub before : ℕ
    pub number_is : n ≡ before + 1
    pub text : List ℕ
    pub first : TestsFirst plant max_number schedule before text
    pub line : List ℕ
    pub line_is : slice_get (lines_of schedule) before ≡ Some line
    pub long : length line ≡ 1000001
    pub written : Appends old new text

-- the whole lines that were read are a schedule, whose text was written; of a further line some was read perhaps
pub record StopsBetween (plant : PlantValue) (max_number : ℕ) (schedule : List ℕ) (old new : Option (List ℕ)) : Type 0
  where
    pub whole : List ℕ
    pub begun : List ℕ
    pub parted : schedule ≡ whole ++ begun
    pub no_feed : HasNoFeed begun
    pub run : WritesTested plant max_number whole old new

-- what was written is a beginning of the text of some first lines, and not all of it; no line behind these was read
abbrev pub WritesBeginningOf : PlantValue → ℕ → List ℕ → Option (List ℕ) → Option (List ℕ) → Type 0
WritesBeginningOf plant max_number schedule old new =
    (w : WritesBeginning plant max_number schedule old new) × (length (lines_of schedule) ≤ w.lines)

-- what was written is the text of some first lines; at most so many lines behind these were read
abbrev pub WritesFirstOf : PlantValue → ℕ → List ℕ → ℕ → Option (List ℕ) → Option (List ℕ) → Type 0
WritesFirstOf plant max_number schedule more old new =
    (w : WritesFirst plant max_number schedule old new) × (length (lines_of schedule) ≤ w.lines + more)

-- what each fault means, and what was written before; after Syntax and TooLong this is the line that was read last
abbrev pub StopsLines : PlantValue → ℕ → List ℕ → List ℕ → Option (List ℕ) → Option (List ℕ) → LiveFault → Type 0
StopsLines plant max_number schedule last old new (Syntax line) =
    StopsAt plant max_number schedule line old new × IsLastLine schedule line last
StopsLines plant max_number schedule last old new (TooLong line) =
    StopsWithin plant max_number schedule line old new × IsLastLine schedule line last
StopsLines plant max_number schedule last old new Read = StopsBetween plant max_number schedule old new
StopsLines plant max_number schedule last old new Write =
    WritesBeginningOf plant max_number schedule old new ⊎ WritesFirstOf plant max_number schedule 0 old new
StopsLines plant max_number schedule last old new Memory = WritesFirstOf plant max_number schedule 1 old new

-- what was read up to the fault, the line that is left behind, and what was written for it
pub record EndsTestedLines (plant : PlantValue) (max_number : ℕ) (given left : Option (List ℕ)) (last : List ℕ)
    (old new : Option (List ℕ)) (fault : LiveFault) : Type 0 where
  pub schedule : List ℕ
  pub read : Consumes given left schedule
  pub stops : StopsLines plant max_number schedule last old new fault

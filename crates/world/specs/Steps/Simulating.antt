-- Steps of the proofs: what one line of a schedule does.
use Rattle.std.specs.Prelude.{◌≡◌, ℕ, ◌+◌, ◌<◌, ◌⊎◌, true, false, List, Option, length, take}
use Rattle.std.specs.Io.KnownBytes.{Appends, Keeps}
use Rattle.world.specs.declared.event.Event.{Event}
use Rattle.world.specs.World.{WorldValue}
use Rattle.world.specs.declared.line_fault.LineFault.{LineFault}
use Rattle.world.specs.declared.line_fault.LineFault.TheVariants.{Syntax, Write, Memory}
use Rattle.world.specs.ScheduleText.{is_idle, SpellsEvent, IsBadLine}
use Rattle.world.specs.Steps.Telling.{IsTold}

-- the words of a line spelled an event, which was done or refused; this line tells it
pub record HasTold (old new : WorldValue) (number : ℕ) (words : List (List ℕ)) (line : List ℕ) : Type 0 where
  pub event : Event
  pub busy : is_idle words ≡ false
  pub spelled : SpellsEvent old.setting.plant number event words
  pub told : IsTold old new number event line

-- the line of words was blank or a comment, and nothing was done
pub record HasRested (old new : WorldValue) (count more : ℕ) (words : List (List ℕ))
    (from to : Option (List ℕ)) : Type 0 where
  pub idle : is_idle words ≡ true
  pub world : new ≡ old
  pub number : more ≡ count
  pub kept : Keeps from to

-- the line of words spelled the next event, and the event's line was written
pub record HasWritten (old new : WorldValue) (count more : ℕ) (words : List (List ℕ))
    (from to : Option (List ℕ)) : Type 0 where
  pub line : List ℕ
  pub told : HasTold old new (count + 1) words line
  pub number : more ≡ count + 1
  pub written : Appends from to line

-- a line was done; there are `count` events before it and `more` with it
abbrev pub HasDone : WorldValue → WorldValue → ℕ → ℕ → List (List ℕ) → Option (List ℕ) → Option (List ℕ) → Type 0
HasDone old new count more words from to =
    HasRested old new count more words from to ⊎ HasWritten old new count more words from to

-- a part of the next event's line was written, and not all
pub record HasBroken (old new : WorldValue) (count : ℕ) (words : List (List ℕ))
    (from to : Option (List ℕ)) : Type 0 where
  pub line : List ℕ
  pub told : HasTold old new (count + 1) words line
  pub bytes : ℕ
  pub less : bytes < length line
  pub written : Appends from to (take bytes line)

-- a line wasn't done
abbrev pub HasStopped : WorldValue → WorldValue → ℕ → List (List ℕ) → Option (List ℕ) → Option (List ℕ)
    → LineFault → Type 0
HasStopped old new count words from to Syntax = IsBadLine old.setting.plant (count + 1) words × Keeps from to
HasStopped old new count words from to Write = HasBroken old new count words from to
HasStopped old new count words from to Memory = Keeps from to

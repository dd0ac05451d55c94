-- Steps of the proofs: what one line does.
use Rattle.std.specs.Prelude.{◌≡◌, ◌≢◌, ℕ, ◌+◌, ◌<◌, ◌||◌, ◌⊎◌, Bool, true, false, List, [], Option, length, reverse, slice_index, take}
use Rattle.std.specs.List.{AllZip}
use Rattle.std.specs.Io.KnownBytes.{Appends, Keeps}
use Rattle.world.specs.declared.line_fault.LineFault.{LineFault}
use Rattle.world.specs.declared.line_fault.LineFault.TheVariants.{Syntax, Write, Memory}
use Rattle.world.specs.History.{incarnation_of}
use Rattle.world.specs.Run.{IsRun}
use Rattle.world.specs.ScheduleText.{is_idle}
use Rattle.world.specs.Step.{history_at}
use Rattle.world.specs.World.{WorldValue}
use Rattle.world.specs.Steps.Simulating.{HasTold}
use Rattle.tested_schedules.specs.declared.answer.Answer.{Answer}
use Rattle.tested_schedules.specs.declared.testing.Testing.{Testing}
use Rattle.tested_schedules.specs.Expectations.{IsAnswer, expected_words, is_expectation}
use Rattle.tested_schedules.specs.Tested.{IsNoLine}
use Rattle.tested_schedules.specs.TestedText.{Piece, are_unmet, of_answers, of_event, piece_text}

-- the present incarnation of each resource
pub record AreIncarnations (w : WorldValue) (incarnations : List ℕ) : Type 0 where
  pub many : length incarnations ≡ length w.setting.plant.resources
  pub each : (n : ℕ) → n < length incarnations → slice_index incarnations n ≡ incarnation_of w.setting n (history_at w)

-- what stands while a schedule is done: the world, how many events there were, and whether an expectation was unmet
pub record TestState : Type 0 where
  pub world : WorldValue
  pub events : ℕ
  pub unmet : Bool

abbrev pub state_of : Testing → TestState
state_of t = record { world = t.world; events = t.events; unmet = t.has_unmet }

-- the words were blank or a comment, and nothing was done; or they spelled the next event, which this text tells
abbrev pub HasDoneEvent : TestState → TestState → List (List ℕ) → List ℕ → Type 0
HasDoneEvent old new words text =
    ((is_idle words ≡ true) × (new ≡ old) × (text ≡ []))
    ⊎ (HasTold old.world new.world (old.events + 1) words text × (new.events ≡ old.events + 1) × (new.unmet ≡ old.unmet))

-- the answers to the words behind the keyword, by the world as it is
pub record HasAnswers (w : WorldValue) (words : List (List ℕ)) (answers : List Answer) : Type 0 where
  pub run : IsRun w.setting w.events w.log
  pub some : words ≢ []
  pub each : AllZip (IsAnswer w.setting (history_at w) (reverse w.log)) words answers

-- what a line does, and what is written for it
abbrev pub HasMade : TestState → TestState → List (List ℕ) → Piece → Type 0
HasMade old new words (of_event text) = (is_expectation words ≡ false) × HasDoneEvent old new words text
HasMade old new words (of_answers answers) =
    (is_expectation words ≡ true) × HasAnswers old.world (expected_words words) answers
    × (new ≡ record old { unmet = old.unmet || are_unmet answers })

-- a line was done, and what it did was written
pub record HasDone (old new : TestState) (words : List (List ℕ)) (from to : Option (List ℕ)) : Type 0 where
  pub piece : Piece
  pub made : HasMade old new words piece
  pub written : Appends from to (piece_text old.world.setting.plant piece)

-- a part of what a line did was written, and not all
pub record HasBroken (old new : TestState) (words : List (List ℕ)) (from to : Option (List ℕ)) : Type 0 where
  pub piece : Piece
  pub made : HasMade old new words piece
  pub bytes : ℕ
  pub less : bytes < length (piece_text old.world.setting.plant piece)
  pub written : Appends from to (take bytes (piece_text old.world.setting.plant piece))

-- a line wasn't done
abbrev pub HasStopped : TestState → TestState → List (List ℕ) → Option (List ℕ) → Option (List ℕ) → LineFault → Type 0
HasStopped old new words from to Syntax = IsNoLine old.world.setting.plant (old.events + 1) words × Keeps from to
HasStopped old new words from to Write = HasBroken old new words from to
HasStopped old new words from to Memory = Keeps from to

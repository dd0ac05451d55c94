-- Steps of the proofs: one line that a source gives.
use Rattle.std.specs.Prelude.{◌≡◌, ◌≢◌, ℕ, ◌+◌, ◌++◌, ◌⊎◌, Bool, true, false, List, [], ◌∷◌, Option, length}
use Rattle.std.specs.Io.KnownBytes.{Consumes, IsAtEnd, Keeps}
use Rattle.words.specs.Lines.{without_last}
use Rattle.evaluation.specs.InputTexts.{words_of}
use Rattle.text_lines.specs.Lines.{HasNoFeed, TakesSome}
use Rattle.tested_schedules.specs.declared.live_fault.LiveFault.{LiveFault}
use Rattle.tested_schedules.specs.declared.live_fault.LiveFault.TheVariants.{Syntax, TooLong, Read, Write, Memory}
use Rattle.tested_schedules.specs.Tested.{IsNoLine}
use Rattle.tested_schedules.specs.Steps.Testing.{HasBroken, HasDone, TestState}

-- the words of a line
abbrev pub line_words : List ℕ → List (List ℕ)
line_words line = words_of (without_last 13 line)

-- a line as it was read: with its line feed, or, if it isn't empty, without one
abbrev pub IsLineOf : List ℕ → List ℕ → Type 0
IsLineOf line bytes = (bytes ≡ line ++ 10 ∷ []) ⊎ ((bytes ≡ line) × (line ≢ []))

-- a line was read
pub record HasRead (given left : Option (List ℕ)) : Type 0 where
  pub line : List ℕ
  pub plain : HasNoFeed line
  pub bytes : List ℕ
  pub form : IsLineOf line bytes
  pub taken : Consumes given left bytes

-- why a line that was read isn't done, or what was written of it isn't handed on; the line has this number
abbrev pub HasFailed : TestState → TestState → List (List ℕ) → Option (List ℕ) → Option (List ℕ) → ℕ → LiveFault → Type 0
HasFailed old new words from to number (Syntax line) =
    (line ≡ number) × IsNoLine old.world.setting.plant (old.events + 1) words × Keeps from to
HasFailed old new words from to number (TooLong line) = ⊥
HasFailed old new words from to number Read = ⊥
HasFailed old new words from to number Write = HasBroken old new words from to ⊎ HasDone old new words from to
HasFailed old new words from to number Memory = Keeps from to

-- a whole line was read and done
pub record HasGoneOn (old new : TestState) (given left from to : Option (List ℕ)) : Type 0 where
  pub line : List ℕ
  pub plain : HasNoFeed line
  pub taken : Consumes given left (line ++ 10 ∷ [])
  pub done : HasDone old new (line_words line) from to

-- the last line was read and done
pub record HasEndedLine (old new : TestState) (given left from to : Option (List ℕ)) : Type 0 where
  pub line : List ℕ
  pub plain : HasNoFeed line
  pub some : line ≢ []
  pub taken : Consumes given left line
  pub done : HasDone old new (line_words line) from to

-- whether the next line was a whole one; else nothing is left
abbrev pub HasDoneNext : TestState → TestState → Option (List ℕ) → Option (List ℕ) → Option (List ℕ) → Option (List ℕ)
    → Bool → Type 0
HasDoneNext old new given left from to true = HasGoneOn old new given left from to
HasDoneNext old new given left from to false =
    IsAtEnd left
    × ((Consumes given left [] × Keeps from to × (new ≡ old)) ⊎ HasEndedLine old new given left from to)

-- why the next line isn't there, or isn't done; of a line that is bad, this is what was read of it
abbrev pub HasStoppedNext : TestState → TestState → Option (List ℕ) → Option (List ℕ) → List ℕ → Option (List ℕ)
    → Option (List ℕ) → ℕ → LiveFault → Type 0
HasStoppedNext old new given left last from to number (Syntax line) =
    (r : HasRead given left) × (r.line ≡ last) × HasFailed old new (line_words r.line) from to number (Syntax line)
HasStoppedNext old new given left last from to number (TooLong line) =
    (line ≡ number) × (r : HasRead given left) × (r.line ≡ last) × (r.bytes ≡ r.line) × (length r.line ≡ 1000001)
    × Keeps from to
HasStoppedNext old new given left last from to number Read = TakesSome given left × Keeps from to
HasStoppedNext old new given left last from to number Write =
    (r : HasRead given left) × HasFailed old new (line_words r.line) from to number Write
HasStoppedNext old new given left last from to number Memory =
    (TakesSome given left ⊎ HasRead given left) × Keeps from to

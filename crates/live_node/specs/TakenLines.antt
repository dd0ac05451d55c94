-- A line that is taken of a source: one that is too long is taken to its end.
use Rattle.std.specs.Prelude.{◌≡◌, ◌≢◌, ℕ, ◌<◌, ◌≤◌, ◌++◌, ◌⊎◌, Bool, true, false, List, [], ◌∷◌, Option, length}
use Rattle.std.specs.Io.KnownBytes.{Consumes, IsAtEnd}
use Rattle.text_lines.specs.Lines.{HasNoFeed, TakesSome}
use Rattle.text_lines.specs.declared.read_fault.ReadFault.{ReadFault}
use Rattle.text_lines.specs.declared.read_fault.ReadFault.TheVariants as reading
use Rattle.live_node.specs.declared.live_lines.TakenLine.{TakenLine}
use Rattle.live_node.specs.declared.live_lines.TakenLine.TheVariants.{Line, TooLong, End}

-- this was taken up to the end of a line: its line feed, or the end of all
abbrev pub TakesToEnd : Option (List ℕ) → Option (List ℕ) → List ℕ → Bool → Type 0
TakesToEnd old new rest true = Consumes old new (rest ++ 10 ∷ [])
TakesToEnd old new rest false = Consumes old new rest × IsAtEnd new

-- a line was taken; where the end of all ended it, it isn't empty
abbrev pub TakesLine : Option (List ℕ) → Option (List ℕ) → List ℕ → Bool → Type 0
TakesLine old new line fed = HasNoFeed line × (fed ≡ false → line ≢ []) × TakesToEnd old new line fed

-- what was taken: the line that is held; one that is too long; or nothing, where nothing is left
abbrev pub Takes : Option (List ℕ) → Option (List ℕ) → List ℕ → TakenLine → Type 0
Takes old new line (Line fed) = (length line ≤ 16777216) × TakesLine old new line fed
Takes old new line (TooLong fed) = (long : List ℕ) × (16777216 < length long) × TakesLine old new long fed
Takes old new line End = Consumes old new [] × IsAtEnd new

-- a line of at least so many bytes was taken, with its line feed
abbrev pub TakesLong : ℕ → Option (List ℕ) → Option (List ℕ) → Type 0
TakesLong least old new =
    (line : List ℕ) × (least ≤ length line) × HasNoFeed line × Consumes old new (line ++ 10 ∷ [])

-- what was taken of a line that can't be read: no line feed; or, for want of memory, a line of at least so many bytes
abbrev pub TakesWithin : ℕ → ReadFault → Option (List ℕ) → Option (List ℕ) → Type 0
TakesWithin least reading.Read old new = TakesSome old new
TakesWithin least reading.Memory old new = TakesSome old new ⊎ TakesLong least old new

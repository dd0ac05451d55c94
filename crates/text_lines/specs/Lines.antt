-- What a line reader takes of a reader.
use Rattle.std.specs.Prelude.{◌≡◌, ◌≢◌, ℕ, ◌≤◌, ◌++◌, ◌==◌, false, List, [], ◌∷◌, Option, length, All}
use Rattle.std.specs.Io.KnownBytes.{Consumes, IsAtEnd}
use Rattle.text_lines.specs.declared.lines.Given.{Given}
use Rattle.text_lines.specs.declared.lines.Given.TheVariants.{Line, LastLine, TooLong, End}

-- no line feed is among these bytes
abbrev pub HasNoFeed : List ℕ → Type 0
HasNoFeed bytes = All (λ c. (c == 10) ≡ false) bytes

-- what was taken: a line of at most 1,000,000 bytes with its line feed; a last line without one, which isn't empty, and
-- nothing is left; a million bytes of a longer line, and one byte more; or nothing, where nothing is left
abbrev pub Gives : Option (List ℕ) → Option (List ℕ) → List ℕ → Given → Type 0
Gives old new line Line = HasNoFeed line × (length line ≤ 1000000) × Consumes old new (line ++ 10 ∷ [])
Gives old new line LastLine =
    HasNoFeed line × (length line ≤ 1000000) × (line ≢ []) × Consumes old new line × IsAtEnd new
Gives old new line TooLong = HasNoFeed line × (length line ≡ 1000001) × Consumes old new line
Gives old new line End = (line ≡ []) × Consumes old new [] × IsAtEnd new

-- some of a line was taken, and no line feed
abbrev pub TakesSome : Option (List ℕ) → Option (List ℕ) → Type 0
TakesSome old new = (taken : List ℕ) × HasNoFeed taken × Consumes old new taken

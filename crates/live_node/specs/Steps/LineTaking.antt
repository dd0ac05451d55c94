-- A line that is taken piece by piece.
use Rattle.std.specs.Prelude.{◌≡◌, ℕ, ◌<◌, ◌≤◌, ◌++◌, Bool, true, false, List, Option, length}
use Rattle.text_lines.specs.Lines.{HasNoFeed}
use Rattle.live_node.specs.declared.live_lines.TakenLine.{TakenLine}
use Rattle.live_node.specs.declared.live_lines.TakenLine.TheVariants.{Line, TooLong, End}
use Rattle.live_node.specs.TakenLines.{TakesToEnd}

-- what was taken of a line behind its beginning: the whole is held, or is too long
abbrev pub TakesRest : Option (List ℕ) → Option (List ℕ) → List ℕ → List ℕ → TakenLine → Type 0
TakesRest old new begun line (Line fed) =
    (rest : List ℕ) × (line ≡ begun ++ rest) × (length line ≤ 16777216) × HasNoFeed rest × TakesToEnd old new rest fed
TakesRest old new begun line (TooLong fed) =
    (rest : List ℕ) × (16777216 < length (begun ++ rest)) × HasNoFeed rest × TakesToEnd old new rest fed
TakesRest old new begun line End = ⊥

-- a line of which this was taken
abbrev pub IsTaken : Bool → Bool → TakenLine → Type 0
IsTaken too_long fed (Line f) = (too_long ≡ false) × (f ≡ fed)
IsTaken too_long fed (TooLong f) = (too_long ≡ true) × (f ≡ fed)
IsTaken too_long fed End = ⊥

-- a piece was put behind a line; or the line is too long with it, or was before
abbrev pub HasPut : List ℕ → List ℕ → List ℕ → Bool → Bool → Type 0
HasPut old new piece before true = (new ≡ old) × (before ≡ false → 16777216 < length (old ++ piece))
HasPut old new piece before false = (new ≡ old ++ piece) × (before ≡ false) × (length new ≤ 16777216)

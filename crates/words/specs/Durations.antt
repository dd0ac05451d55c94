-- Durations: the numbers and units that a word spells, and how much they are together.
use Rattle.std.specs.Prelude.{ℕ, ◌+◌, ◌*◌, ◌≡◌, ◌<◌, ◌⊎◌, IsTrue, List, [], ◌∷◌, ◌++◌, codes}
use Rattle.words.specs.Chars.{same_word, is_number, unit_rank}
use Rattle.words.specs.Numbers.{number_value, unit_length}

-- a part of a duration: the characters of its number and of its unit
pub record Part : Type 0 where
  pub number : List ℕ
  pub unit : List ℕ

-- each part has a number, and a unit that comes behind that of the part before it, of d, h, m, s, ms in this order
abbrev pub AreParts : ℕ → List Part → Type 0
AreParts above [] = Unit {0}
AreParts above (p ∷ ps) = IsTrue (is_number p.number) × (above < unit_rank p.unit) × AreParts (unit_rank p.unit) ps

-- the word is one or more parts, one after the other, with at most one underscore between two
abbrev pub IsSpelling : List Part → List ℕ → Type 0
IsSpelling [] w = ⊥
IsSpelling (p ∷ []) w = w ≡ p.number ++ p.unit
IsSpelling (p ∷ q ∷ ps) w = (rest : List ℕ) × IsSpelling (q ∷ ps) rest
    × ((w ≡ p.number ++ p.unit ++ rest) ⊎ (w ≡ p.number ++ p.unit ++ 95 ∷ rest))

-- the word is `T#` or `TIME#`, in either case, and then the parts
pub record IsDurationOf (w : List ℕ) (ps : List Part) : Type 0 where
  pub front : List ℕ
  pub rest : List ℕ
  pub whole : w ≡ front ++ rest
  pub named : IsTrue (same_word front (codes "T#")) ⊎ IsTrue (same_word front (codes "TIME#"))
  pub spelled : IsSpelling ps rest
  pub parts : AreParts 0 ps

-- how many milliseconds the parts are together
abbrev pub milliseconds : List Part → ℕ
milliseconds [] = 0
milliseconds (p ∷ ps) = number_value p.number * unit_length (unit_rank p.unit) + milliseconds ps

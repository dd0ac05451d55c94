-- The rows of a text, and the character at a place.
use Rattle.std.specs.Prelude.{ℕ, zero, suc, ◌+◌, ◌-◌, List, [], ◌∷◌, ◌++◌, ◌==◌, if◌then◌else◌, map, length, slice_index_or, max, Bool, ◌||◌}
use Rattle.std.specs.List.{fold}
use Rattle.words.specs.Lines.{without_last, lines_of}

-- a text as rows of characters, with a blank margin: row 0 is empty, and column 0 of each row is a blank
abbrev pub Rows : Type 0
Rows = List (List ℕ)

-- x in front, unless it is a blank and nothing follows
abbrev pub put_before : ℕ → List ℕ → List ℕ
put_before x [] = if x == 32 then [] else x ∷ []
put_before x (y ∷ more) = x ∷ y ∷ more

-- a line without its trailing blanks
abbrev pub trimmed : List ℕ → List ℕ
trimmed [] = []
trimmed (x ∷ xs) = put_before x (trimmed xs)

-- a line without the carriage return at its end and without its trailing blanks, behind the margin
abbrev pub row_of : List ℕ → List ℕ
row_of line = 32 ∷ trimmed (without_last 13 line)

-- the rows of a text
unfoldable pub rows_of : List ℕ → Rows
rows_of text = [] ∷ map row_of (lines_of text)

-- the character at a place, a blank outside the text
unfoldable pub char_at : Rows → ℕ → ℕ → ℕ
char_at d r c = slice_index_or (slice_index_or d r []) c 32

-- the number of rows
abbrev pub height : Rows → ℕ
height d = length d - 1

-- the length of the longest row, its margin counted
abbrev pub longest : Rows → ℕ
longest d = fold max 0 (map length d)

-- the greatest column with a character that is no blank
abbrev pub width : Rows → ℕ
width d = longest d - 1

-- at how many places from i on, at most n, the test passes without a break
abbrev pub run : (ℕ → Bool) → ℕ → ℕ → ℕ
run p i zero = 0
run p i (suc n) = if p i then suc (run p (i + 1) n) else 0

-- the same, to the left (or upwards) from i
abbrev pub run_back : (ℕ → Bool) → ℕ → ℕ → ℕ
run_back p i zero = 0
run_back p i (suc n) = if p i then suc (run_back p (i - 1) n) else 0

-- the lists of 1 to n, one after the other
abbrev pub upto : {A : Type 0} → ℕ → (ℕ → List A) → List A
upto zero f = []
upto (suc n) f = upto n f ++ f (suc n)

-- `|` or `+`
abbrev pub is_rail_char : ℕ → Bool
is_rail_char c = c == 124 || c == 43

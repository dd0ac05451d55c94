-- The faults that rows and boxes show by themselves, and which of some places is the first.
use Rattle.std.specs.Prelude.{ℕ, ◌≡◌, ◌<◌, ◌≤◌, ◌⊎◌, IsTrue, IsFalse, [], ◌==◌, length, slice_index_or, Bool, ◌&&◌, ◌||◌, not, is_none}
use Rattle.words.specs.Chars.{between}
use Rattle.ladder_rows.specs.Rows.{Rows, char_at, width, is_rail_char}
use Rattle.ladder_rows.specs.Boxes.{begins_box, outline_at, left_column}

-- a character outside 32 to 126
abbrev pub not_ascii : Rows → ℕ → ℕ → Bool
not_ascii d r c = not (between 32 (char_at d r c) 126)

-- row 2001, column 1, if there is such a row; or column 241 of a row that reaches it
abbrev pub IsTooLargeAt : Rows → ℕ → ℕ → Type 0
IsTooLargeAt d r c = ((2001 < length d) × (r ≡ 2001) × (c ≡ 1)) ⊎ ((241 < length (slice_index_or d r [])) × (c ≡ 241))

-- a character of the left rail's column that is no rail's
abbrev pub no_left_rail : Rows → ℕ → Bool
no_left_rail d r = let c = char_at d r (left_column d) in not (c == 32 || is_rail_char c)

-- a box begins, and isn't as it should be
abbrev pub bad_box : Rows → ℕ → ℕ → Bool
bad_box d r c = begins_box d r c && is_none (outline_at d r c)

-- no place of the rows, nor of their margin, passes the test
abbrev pub NowhereInRows : Rows → (ℕ → ℕ → Bool) → Type 0
NowhereInRows d test = (r c : ℕ) → r < length d → c ≤ width d → IsFalse (test r c)

-- no row passes the test
abbrev pub InNoRow : Rows → (ℕ → Bool) → Type 0
InNoRow d test = (r : ℕ) → r < length d → IsFalse (test r)

-- the test passes at a place of the rows or of their margin
pub record PassesInRows (d : Rows) (test : ℕ → ℕ → Bool) (r c : ℕ) : Type 0 where
  pub in_rows : r < length d
  pub in_columns : c ≤ width d
  pub passes : IsTrue (test r c)

-- (r, c) comes before (i, j), by row and then column, or is the same place
abbrev pub IsPlaceUpTo : ℕ → ℕ → ℕ → ℕ → Type 0
IsPlaceUpTo r c i j = (r < i) ⊎ ((r ≡ i) × (c ≤ j))

-- (r, c) is the first of the places that are such
pub record IsFirstAt (IsSuch : ℕ → ℕ → Type 0) (r c : ℕ) : Type 0 where
  pub such : IsSuch r c
  pub first : (i j : ℕ) → IsSuch i j → IsPlaceUpTo r c i j

-- What the search for the faults of rows and boxes knows halfway.
use Rattle.std.specs.Prelude.{◌≡◌, ◌≢◌, ◌+◌, ◌<◌, ℕ, List, ◌≤◌, IsFalse, Bool, nat_lt, length, slice_index_or, take, position, Option, Some, None}
use Rattle.drawings.specs.declared.place.Place.{Place}
use Rattle.ladder_rows.specs.Rows.{Rows, width}
use Rattle.ladder_rows.specs.Boxes.{left_column}
use Rattle.ladder_rows.specs.Faults.{NowhereInRows, PassesInRows, not_ascii, IsFirstAt}

-- rows of printable characters within the limits, with the left rail's column and the last column
abbrev pub AreMeasured : Rows → ℕ → ℕ → Type 0
AreMeasured d left last =
    (left ≡ left_column d) × (last ≡ width d) × (last ≤ 240) × (length d ≤ 2001) × NowhereInRows d (not_ascii d)

-- no place of a row, nor its margin, passes the test
abbrev pub NowhereInRow : Rows → (ℕ → Bool) → Type 0
NowhereInRow d test = (c : ℕ) → c ≤ width d → IsFalse (test c)

-- the place p passes the test
abbrev pub PassesAt : Rows → (ℕ → ℕ → Bool) → Place → Type 0
PassesAt d test p = PassesInRows d test p.row p.column

-- p is the first place that passes the test
abbrev pub IsFirstToPass : Rows → (ℕ → ℕ → Bool) → Place → Type 0
IsFirstToPass d test p = IsFirstAt (PassesInRows d test) p.row p.column

-- column 241 of the row r, or else row 2001
abbrev pub place_beyond : Option ℕ → Place
place_beyond None = record { row = 2001; column = 1 }
place_beyond (Some r) = record { row = r; column = 241 }

-- the first row of 2000 with more than 240 characters behind its margin
abbrev pub first_long : Rows → Option ℕ
first_long d = position (λ row. nat_lt 241 (length row)) (take 2001 d)

-- the first place of more than 2000 rows of 240 columns
abbrev pub first_beyond : Rows → Place
first_beyond d = place_beyond (first_long d)

-- behind the column left no dash follows a `+`
abbrev pub HasNoCorner : ℕ → List ℕ → Type 0
HasNoCorner left cells = (c : ℕ) → left < c → slice_index_or cells c 32 ≡ 43 → slice_index_or cells (c + 1) 32 ≢ 45

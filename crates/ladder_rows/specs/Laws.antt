-- What holds of all rows.
use Rattle.std.specs.Prelude.{ℕ, ◌+◌, ◌≡◌, ◌<◌, ◌≤◌, length, Bool, true, false, IsFalse, Some}
use Rattle.std.specs.List.{All}
use Rattle.ladder_rows.specs.declared.boxes.outline.Outline.{Outline}
use Rattle.ladder_rows.specs.Rows.{Rows, height, width, run}
use Rattle.ladder_rows.specs.Boxes.{box_at}
use Rattle.ladder_rows.specs.Faults.{IsTooLargeAt, PassesInRows, IsFirstAt}

-- the box b begins at (r, c), ends within the rows and columns, and has its pins between its top and its bottom
pub record IsWholeAt (d : Rows) (r c : ℕ) (b : Outline) : Type 0 where
  pub top : b.top ≡ r
  pub left : b.left ≡ c
  pub high : r < b.bottom
  pub wide : c < b.right
  pub row_within : b.bottom ≤ height d
  pub column_within : b.right ≤ width d
  pub pins : All (λ q. (r < q.row) × (q.row < b.bottom)) b.pins

-- each box is whole
abbrev pub AreBoxesWhole : Type 0
AreBoxesWhole = (d : Rows) (r c : ℕ) (b : Outline) → box_at d r c ≡ Some b → IsWholeAt d r c b

-- rows of which no place is beyond the limits are within them
abbrev pub AreRowsWithin : Type 0
AreRowsWithin = (d : Rows) → ((r c : ℕ) → IsTooLargeAt d r c → ⊥) → (length d ≤ 2001) × (width d ≤ 240)

-- a run of m places, all of which pass, ends where the next fails or the limit is met
abbrev pub DoRunsEnd : Type 0
DoRunsEnd =
    (p : ℕ → Bool) (i m n : ℕ) → m ≤ n → ((j : ℕ) → j < m → p (i + j) ≡ true) → (m < n → p (i + m) ≡ false)
    → run p i n ≡ m

-- a place that passes a test is the first one, where none of a row above it passes, and none before it in its row
abbrev pub IsFirstByRows : Type 0
IsFirstByRows =
    (d : Rows) (test : ℕ → ℕ → Bool) (r c : ℕ) → ((i j : ℕ) → i < r → j ≤ width d → IsFalse (test i j))
    → ((k : ℕ) → k < c → IsFalse (test r k)) → PassesInRows d test r c → IsFirstAt (PassesInRows d test) r c

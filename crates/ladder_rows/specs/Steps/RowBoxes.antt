-- The boxes of a row by their numbers, and what is asked of boxes at a place.
use Rattle.std.specs.Prelude.{ℕ, zero, suc, ◌+◌, ◌≡◌, ◌<◌, ◌≤◌, List, [], ◌∷◌, ◌++◌, ◌==◌, if◌then◌else◌, length, slice_get, slice_index_or, Bool, false, Option, Some, None}
use Rattle.std.specs.List.{All, list_any}
use Rattle.std.specs.List.Sorted.{IsNonDecreasingBy}
use Rattle.ladder_rows.specs.declared.boxes.outline.Outline.{Outline}
use Rattle.drawings.specs.declared.drawn_box.DrawnPin.{DrawnPin}
use Rattle.drawings.specs.declared.drawn_box.Side.{Side}
use Rattle.ladder_rows.specs.declared.boxes.box_test.BoxTest.{BoxTest}
use Rattle.ladder_rows.specs.declared.boxes.box_test.BoxTest.TheVariants.{Covers, Reaches, RightPin, BlindLeft, BlindRight}
use Rattle.ladder_rows.specs.declared.span.Span.{Span}
use Rattle.ladder_rows.specs.Boxes.{covers, meets_row}
use Rattle.ladder_rows.specs.BoxTests.{top_span, box_reaches, right_pin_at, blind_left_of, blind_right_of, takes_word}

-- what a test asks of a box at (r, c)
abbrev pub box_test : BoxTest → ℕ → ℕ → Outline → Bool
box_test Covers r c = covers r c
box_test Reaches r c = box_reaches r c
box_test RightPin r c = right_pin_at r c
box_test BlindLeft r c = blind_left_of r c
box_test BlindRight r c = blind_right_of r c

-- no box passes a test on the row r
pub record IsBare (bs : List Outline) (r : ℕ) : Type 0 where
  pub none : (t : BoxTest) (c : ℕ) → list_any (box_test t r c) bs ≡ false

-- the row of a pin
abbrev pub row_of_pin : DrawnPin → ℕ
row_of_pin q = q.row

-- the pins from the n-th on stand on the row r or below it
abbrev pub AreOnOrBelow : List DrawnPin → ℕ → ℕ → Type 0
AreOnOrBelow pins n r = (k : ℕ) (d : DrawnPin) → n ≤ k → k < length pins → r ≤ (slice_index_or pins k d).row

-- the pins from the n-th on stand below the row r
abbrev pub AreBelow : List DrawnPin → ℕ → ℕ → Type 0
AreBelow pins n r = (k : ℕ) (d : DrawnPin) → n ≤ k → k < length pins → r < (slice_index_or pins k d).row

-- whether the operand of a pin on side s of a box begins at (r, c)
abbrev pub word_test : Side → ℕ → ℕ → Outline → Bool
word_test s r c b = list_any (takes_word s r c) b.pins

-- the pins of each box stand row by row
pub record HavePinsByRow (bs : List Outline) : Type 0 where
  pub each : (k : ℕ) (b : Outline) → slice_get bs k ≡ Some b → IsNonDecreasingBy row_of_pin b.pins

-- a box has its rows among the first n, and its pins stand row by row on them
pub record IsInRows (n : ℕ) (b : Outline) : Type 0 where
  pub above : 0 < b.top
  pub high : b.top ≤ b.bottom
  pub within : b.bottom ≤ n
  pub pins : All (λ q. (b.top ≤ q.row) × (q.row ≤ b.bottom)) b.pins
  pub by_row : IsNonDecreasingBy row_of_pin b.pins

-- boxes on the first n rows
pub record AreInRows (n : ℕ) (bs : List Outline) : Type 0 where
  pub each : (k : ℕ) (b : Outline) → slice_get bs k ≡ Some b → IsInRows n b

-- the box is there and passes
abbrev pub holds : (Outline → Bool) → Option Outline → Bool
holds p None = false
holds p (Some b) = p b

-- whether the box with the number i is there and passes
abbrev pub holds_at : List Outline → (Outline → Bool) → ℕ → Bool
holds_at bs p i = holds p (slice_get bs i)

-- the numbers below n that pass
abbrev pub numbers_below : (ℕ → Bool) → ℕ → List ℕ
numbers_below p zero = []
numbers_below p (suc n) = numbers_below p n ++ (if p n then n ∷ [] else [])

-- the numbers of the boxes that have the row r
unfoldable pub numbers_on : List Outline → ℕ → List ℕ
numbers_on bs r = numbers_below (holds_at bs (meets_row r)) (length bs)

-- for each row from the first on, the numbers of its boxes below n
abbrev pub AreNumbered : List Outline → ℕ → List (List ℕ) → Type 0
AreNumbered bs n numbers =
    (k : ℕ) → k < length numbers → slice_index_or numbers k [] ≡ numbers_below (holds_at bs (meets_row (k + 1))) n

-- boxes on rows, with the numbers of those of each row
abbrev pub AreKeptByRow : List Outline → List (List ℕ) → Type 0
AreKeptByRow bs numbers = AreInRows (length numbers) bs × AreNumbered bs (length bs) numbers

-- each row of the box has the number n behind those that it had
abbrev pub IsAddedToItsRows : Outline → ℕ → List (List ℕ) → List (List ℕ) → Type 0
IsAddedToItsRows b n old new =
    (k : ℕ) → k < length old → b.top ≤ k + 1 → k + 1 ≤ b.bottom
    → slice_index_or new k [] ≡ slice_index_or old k [] ++ n ∷ []

-- each row above the box has the numbers that it had
abbrev pub IsSameAbove : Outline → List (List ℕ) → List (List ℕ) → Type 0
IsSameAbove b old new = (k : ℕ) → k + 1 < b.top → slice_index_or new k [] ≡ slice_index_or old k []

-- and so has each row below it
abbrev pub IsSameBelow : Outline → List (List ℕ) → List (List ℕ) → Type 0
IsSameBelow b old new = (k : ℕ) → b.bottom < k + 1 → slice_index_or new k [] ≡ slice_index_or old k []

-- the top side of a box that begins in row r
abbrev pub top_in : ℕ → Option Outline → Option Span
top_in r None = None
top_in r (Some b) = if b.top == r then Some (top_span b) else None

-- the top side of the box with the number i, if it begins in row r
abbrev pub top_at : List Outline → ℕ → ℕ → Option Span
top_at bs r i = top_in r (slice_get bs i)

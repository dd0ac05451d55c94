-- The numbers of places.
use Rattle.std.specs.Prelude.{◌≡◌, ◌≢◌, ℕ, List, Option, Some, None, slice_get}
use Rattle.drawings.specs.declared.place.Place.{Place}
use Rattle.network.specs.declared.places.numbering.Spot.{Spot}

-- the place p has the number k
abbrev pub IsSpot : List Spot → ℕ → Place → Type 0
IsSpot spots k p = (s : Spot) × (slice_get spots k ≡ Some s) × (s.place ≡ p)

-- the number in a column of a row that may be there
abbrev pub number_in : Option (List ℕ) → ℕ → Option ℕ
number_in None column = None
number_in (Some row) column = slice_get row column

-- the number that is written at a place
abbrev pub number_at : List (List ℕ) → Place → Option ℕ
number_at rows p = number_in (slice_get rows p.row) p.column

-- the number of each place in the list is written there
pub record AreNumbers (spots : List Spot) (rows : List (List ℕ)) : Type 0 where
  pub whole : (p : Place) (k : ℕ) → IsSpot spots k p → number_at rows p ≡ Some k

-- the numbers of other places are kept
abbrev pub KeepsNumbers : Place → List (List ℕ) → List (List ℕ) → Type 0
KeepsNumbers place old new = (p : Place) (n : ℕ) → p ≢ place → number_at old p ≡ Some n → number_at new p ≡ Some n

-- a place with the number of the element that it belongs to
abbrev pub spot : Place → ℕ → Spot
spot place element = record { place = place; element = element }

-- the place has no number
abbrev pub IsNoSpot : List Spot → Place → Type 0
IsNoSpot spots place = (k : ℕ) → IsSpot spots k place → ⊥

-- the place belongs to the element
abbrev pub IsOwner : List Spot → Place → ℕ → Type 0
IsOwner spots place element = (k : ℕ) × (slice_get spots k ≡ Some (spot place element))

-- each of these places has its position as owner
pub record IsIndex (places : List Place) (spots : List Spot) : Type 0 where
  pub owned : (n : ℕ) (s : Spot) → slice_get spots n ≡ Some s → slice_get places s.element ≡ Some s.place
  pub whole : (k : ℕ) (p : Place) → slice_get places k ≡ Some p → (n : ℕ) × IsSpot spots n p

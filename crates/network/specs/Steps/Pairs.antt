-- Pairs of elements between which state passes, by their numbers.
use Rattle.std.specs.Prelude.{◌≡◌, ◌+◌, ◌<◌, ◌≤◌, ◌↔◌, ◌⊎◌, ℕ, List, Option, Some, Contains, slice_get, slice_index, length}
use Rattle.drawings.specs.Picture.{Picture, IsSound}
use Rattle.drawings.specs.declared.place.Place.{Place}
use Rattle.drawings.specs.declared.drawn_box.DrawnBox.{DrawnBox}
use Rattle.drawings.specs.declared.drawn_box.Side.TheVariants.{Left, Right}
use Rattle.network.specs.declared.element.Element.{Element}
use Rattle.network.specs.declared.element.Element.TheVariants.{Wire, Join, Upright, Contact, Coil, Box}
use Rattle.network.specs.declared.joining.labels.Pair.{Pair}
use Rattle.network.specs.declared.joining.row_table.InRow.{InRow}
use Rattle.network.specs.Links.{place, Gives, Takes, Stands, IsPinPlace}
use Rattle.network.specs.Apart.{first_place, Has, Precedes}
use Rattle.network.specs.Networks.{AreLinked, Chained}
use Rattle.network.specs.Steps.Listing.{AreElementsOf}

-- Elements by column and row, all above a row and on the page,
-- of which a later one stands right of an earlier one where they share a row.
pub record AreLaidOut (rows : ℕ) (elements : List Element) : Type 0 where
  pub within : (k : ℕ) (e : Element) (p : Place) → slice_get elements k ≡ Some e → Has e p
      → (p.row < rows) × (p.column ≤ 240)
  pub right : (j k : ℕ) (e f : Element) (p q : Place) → j < k → slice_get elements j ≡ Some e
      → slice_get elements k ≡ Some f → Has e p → Has f q → p.row ≡ q.row → p.column < q.column
  pub rising : (j k : ℕ) (e f : Element) → j < k → slice_get elements j ≡ Some e → slice_get elements k ≡ Some f
      → Precedes (first_place e) (first_place f)

-- the pair is of two linked elements
abbrev pub IsPairOf : List Element → Pair → Type 0
IsPairOf elements pair = (e f : Element) × (slice_get elements pair.one ≡ Some e)
    × (slice_get elements pair.other ≡ Some f) × AreLinked e f

-- the pair of two numbers
abbrev pub pair_of : ℕ → ℕ → Pair
pair_of one other = record { one = one; other = other }

-- p is the leftmost place in its row to which state passes from the left of this element
abbrev pub Enters : Element → Place → Type 0
Enters (Wire at) p = at ≡ p
Enters (Join at) p = at ≡ p
Enters (Upright at) p = ⊥
Enters (Contact c) p = place c.row c.column ≡ p
Enters (Coil c) p = place c.row c.column ≡ p
Enters (Box b) p = IsPinPlace Left b p

-- p is the rightmost place in its row from which state passes to the right of this element
abbrev pub Leaves : Element → Place → Type 0
Leaves (Wire at) p = at ≡ p
Leaves (Join at) p = at ≡ p
Leaves (Upright at) p = ⊥
Leaves (Contact c) p = place c.row (c.column + 2) ≡ p
Leaves (Coil c) p = place c.row (c.column + 2) ≡ p
Leaves (Box b) p = IsPinPlace Right b p

-- the rightmost place in each row from which state passes to the right of one of the first n elements
pub record AreLast (elements : List Element) (last : List (Option InRow)) (n : ℕ) : Type 0 where
  pub found : (r : ℕ) (t : InRow) → slice_get last r ≡ Some (Some t)
      → (e : Element) × (slice_get elements t.element ≡ Some e) × (t.element < n) × Gives e (place r t.column)
  pub whole : (k : ℕ) (e : Element) (p : Place) → k < n → slice_get elements k ≡ Some e → Gives e p
      → (t : InRow) × (slice_get last p.row ≡ Some (Some t)) × (p.column ≤ t.column)

-- the element of each row that takes state in a column, among the first n
pub record AreTakers (elements : List Element) (column : ℕ) (takers : List (Option InRow)) (n : ℕ) : Type 0 where
  pub found : (r : ℕ) (t : InRow) → slice_get takers r ≡ Some (Some t)
      → (e : Element) × (slice_get elements t.element ≡ Some e) × (t.element < n) × Takes e (place r column)
  pub whole : (k : ℕ) (e : Element) (r : ℕ) → k < n → slice_get elements k ≡ Some e → Takes e (place r column)
      → slice_get takers r ≡ Some (Some (record { element = k; column = column }))

-- the pair of element k with the one whose last place is on the left of p
abbrev pub IsLeftPair : List (Option InRow) → Place → ℕ → Pair → Type 0
IsLeftPair last p k m = (t : InRow) × (slice_get last p.row ≡ Some (Some t)) × (p.column ≡ t.column + 1)
    × (m ≡ pair_of t.element k)

-- the pair of a box with the element on the left of one of its left pins
abbrev pub IsLeftPinPair : List (Option InRow) → DrawnBox → ℕ → Pair → Type 0
IsLeftPinPair last b element m = (p : Place) × IsPinPlace Left b p × IsLeftPair last p element m

-- p is under a place of an upright of this element
abbrev pub IsUnder : Element → Place → Type 0
IsUnder e p = (q : Place) × Stands e q × (p.row ≡ q.row + 1) × (p.column ≡ q.column)

-- the pair of element k with the one before it, of which p is under an upright
abbrev pub IsUpperPair : List Element → Place → ℕ → Pair → Type 0
IsUpperPair elements p k m = (j : ℕ) × (e : Element) × (k ≡ j + 1) × (slice_get elements j ≡ Some e)
    × IsUnder e p × (m ≡ pair_of j k)

-- the pair of element k, which is e, with an earlier one
abbrev pub IsNewPair : List Element → List (Option InRow) → Element → ℕ → Pair → Type 0
IsNewPair elements last e k m = ((p : Place) × Enters e p × IsLeftPair last p k m)
    ⊎ ((p : Place) × Stands e p × IsUpperPair elements p k m)

-- such pairs are added
pub record Adds (IsSuch : Pair → Type 0) (old new : List Pair) : Type 0 where
  pub kept : (m : Pair) → Contains old m → Contains new m
  pub each : (m : Pair) → Contains new m → Contains old m ⊎ IsSuch m
  pub added : (m : Pair) → IsSuch m → Contains new m

-- the pairs of element k with earlier ones are added
abbrev pub AddsPairsOf : List Element → List (Option InRow) → ℕ → List Pair → List Pair → Type 0
AddsPairsOf elements last k old new = (e : Element) → slice_get elements k ≡ Some e
    → Adds (IsNewPair elements last e k) old new

-- the places of element k are in these rows
abbrev pub StandsInRows : List Element → ℕ → ℕ → Type 0
StandsInRows elements k rows = (e : Element) (p : Place) → slice_get elements k ≡ Some e → Has e p → p.row < rows

-- the pairs are the linked ones of the first n elements
pub record ArePairsTo (elements : List Element) (pairs : List Pair) (n : ℕ) : Type 0 where
  pub each : (m : Pair) → Contains pairs m → IsPairOf elements m
  pub every : (i j : ℕ) (e f : Element) → i < j → j < n → slice_get elements i ≡ Some e
      → slice_get elements j ≡ Some f → AreLinked e f → Contains pairs (pair_of i j)

-- elements have one label where a chain joins them
pub record AreLabels (g : Picture) (elements : List Element) (labels : List ℕ) : Type 0 where
  pub long : length labels ≡ length elements
  pub label : (k : ℕ) → k < length elements → slice_index labels k < length elements
  pub joined : (i j : ℕ) (e f : Element) → slice_get elements i ≡ Some e → slice_get elements j ≡ Some f
      → (slice_index labels i ≡ slice_index labels j) ↔ Chained g e f

-- the labels of the elements of a sound drawing
abbrev pub AreLabelsOf : List Element → List ℕ → Type 0
AreLabelsOf elements labels = (g : Picture) → IsSound g → AreElementsOf g elements → AreLabels g elements labels

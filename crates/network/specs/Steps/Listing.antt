-- Elements of a drawing in a list.
use Rattle.std.specs.Prelude.{◌≡◌, ℕ, ◌<◌, List, Some, slice_get, Option, [], ◌∷◌, ◌++◌, MatchOption}
use Rattle.drawings.specs.Picture.{Picture}
use Rattle.drawings.specs.declared.place.Place.{Place}
use Rattle.network.specs.declared.element.Element.{Element}
use Rattle.network.specs.Apart.{first_place}
use Rattle.network.specs.Networks.{IsElementOf, Precedes}
use Rattle.network.specs.declared.listing.listed.Entry.{Entry}
use Rattle.network.specs.Steps.Listed.{element_of}

-- the elements of the drawing that begin before a place, by column and then row
pub record AreElementsBefore (g : Picture) (at : Place) (elements : List Element) : Type 0 where
  pub drawn : (k : ℕ) (e : Element) → slice_get elements k ≡ Some e → IsElementOf g e
  pub before : (k : ℕ) (e : Element) → slice_get elements k ≡ Some e → Precedes (first_place e) at
  pub whole : (e : Element) → IsElementOf g e → Precedes (first_place e) at → (k : ℕ) × (slice_get elements k ≡ Some e)
  pub rising : (j k : ℕ) (e f : Element) → j < k → slice_get elements j ≡ Some e → slice_get elements k ≡ Some f
      → Precedes (first_place e) (first_place f)

-- what was found, if anything, is added at the end
abbrev pub AddsFound : Option Entry → List Entry → List Entry → Type 0
AddsFound found old new = MatchOption found (new ≡ old) (λ e. new ≡ old ++ e ∷ [])

-- the answer is the one element that begins at a place
pub record IsTheElementAt (g : Picture) (p : Place) (e : Element) : Type 0 where
  pub drawn : IsElementOf g e
  pub begins : first_place e ≡ p
  pub only : (f : Element) → IsElementOf g f → first_place f ≡ p → f ≡ e

-- the entry stands for the one element that begins at a place
abbrev pub IsEntryAt : Picture → Place → Entry → Type 0
IsEntryAt g p entry = IsTheElementAt g p (element_of g entry)

-- no element begins at a place
abbrev pub IsNoElementAt : Picture → Place → Type 0
IsNoElementAt g p = (f : Element) → IsElementOf g f → first_place f ≡ p → ⊥

-- all elements of the drawing, by column and then row
pub record AreElementsOf (g : Picture) (elements : List Element) : Type 0 where
  pub drawn : (k : ℕ) (e : Element) → slice_get elements k ≡ Some e → IsElementOf g e
  pub whole : (e : Element) → IsElementOf g e → (k : ℕ) × (slice_get elements k ≡ Some e)
  pub rising : (j k : ℕ) (e f : Element) → j < k → slice_get elements j ≡ Some e → slice_get elements k ≡ Some f
      → Precedes (first_place e) (first_place f)

use Rattle.std.specs.Prelude.{◌≡◌, ℕ, ◌+◌, ◌<◌, ◌≤◌, ◌⊎◌, List, Some, slice_get, Contains}
use Rattle.drawings.specs.declared.place.Place.{Place}
use Rattle.network.specs.declared.element.Element.{Element}
use Rattle.network.specs.declared.element.Element.TheVariants.{Wire, Join, Upright, Contact, Coil, Box}
use Rattle.network.specs.Links.{Diagram, place, Gives, Takes, Stands}

-- the first place of an element
abbrev pub first_place : Element → Place
first_place (Wire at) = at
first_place (Join at) = at
first_place (Upright at) = at
first_place (Contact c) = place c.row c.column
first_place (Coil c) = place c.row c.column
first_place (Box b) = place b.top b.left

-- by column, and in one column by row
abbrev pub Precedes : Place → Place → Type 0
Precedes p q = (p.column < q.column) ⊎ ((p.column ≡ q.column) × (p.row < q.row))

-- p is a place of this element at which state can stand, or where the element begins
abbrev pub Has : Element → Place → Type 0
Has e p = (first_place e ≡ p) ⊎ (Gives e p ⊎ (Takes e p ⊎ Stands e p))

-- no two elements share a place, and none lies on the left rail
pub record AreApart (d : Diagram) : Type 0 where
  pub elements : (j k : ℕ) (e f : Element) (p : Place) → slice_get d.elements j ≡ Some e
      → slice_get d.elements k ≡ Some f → Has e p → Has f p → j ≡ k
  pub rails : (e : Element) (p : Place) → Contains d.elements e → Has e p → Contains d.rails p → ⊥

-- each place of the elements is within the limits of a drawing
abbrev pub AreOnPage : List Element → Type 0
AreOnPage elements = (k : ℕ) (e : Element) (p : Place) → slice_get elements k ≡ Some e → Has e p
    → (p.row ≤ 2000) × (p.column ≤ 240)

-- state passes from the place p of one element to the place q of another
pub record StepsRight (e : Element) (p : Place) (f : Element) (q : Place) : Type 0 where
  pub row : q.row ≡ p.row
  pub column : q.column ≡ p.column + 1
  pub gives : Gives e p
  pub takes : Takes f q

-- state passes from the place p of one element to the place q of another above or below it, in one upright
pub record StepsUpright (e : Element) (p : Place) (f : Element) (q : Place) : Type 0 where
  pub row : (q.row ≡ p.row + 1) ⊎ (p.row ≡ q.row + 1)
  pub column : q.column ≡ p.column
  pub from : Stands e p
  pub to : Stands f q

-- state passes from the place p of one element to the place q of another, to the right or within one upright
abbrev pub Steps : Element → Place → Element → Place → Type 0
Steps e p f q = StepsRight e p f q ⊎ StepsUpright e p f q

-- What is told of each element of a network that is passed one element after the other.
use Rattle.std.specs.Prelude.{◌≡◌, ℕ, ◌+◌, ◌-◌, ◌<◌, ◌⊎◌, ◌↔◌, List, [], ◌∷◌, Bool, true, false, Some, slice_get, length}
use Rattle.drawings.specs.declared.place.Place.{Place}
use Rattle.network.specs.declared.element.Element.{Element}
use Rattle.network.specs.declared.element.Element.TheVariants.{Wire, Join, Upright, Contact, Coil, Box}
use Rattle.network.specs.Links.{Diagram, place, Stands}
use Rattle.declared_names.specs.declared.declarations.Declaration.{Declaration}
use Rattle.scan_steps.specs.declared.slot.Slot.{Slot}
use Rattle.scan_steps.specs.declared.bound_box.BoundBox.{BoundBox}
use Rattle.scan_steps.specs.declared.step.Step.{Step}
use Rattle.scan_steps.specs.Conducting.{bit_at}
use Rattle.scan_steps.specs.Steps.Passing.{Pass, ArePassed}
use Rattle.power_flow.specs.Steps.Columns.{IsLed, IsAtRail, joined, AreStepsOf}

-- by the states of the rows state comes to p from its left: it goes on in its row, or comes from the left rail
abbrev pub IsComing : Diagram → ℕ → List Bool → Place → Bool → Type 0
IsComing d top rows p on = (IsLed d p × (on ≡ bit_at rows (p.row - top)))
    ⊎ ((IsLed d p → ⊥) × ((on ≡ true) ↔ IsAtRail d p))

-- state comes to the first place of an element: never to an upright, nor to the corner of a box
abbrev pub IsComingTo : Diagram → ℕ → List Bool → Element → Bool → Type 0
IsComingTo d top rows (Wire at) on = IsComing d top rows at on
IsComingTo d top rows (Join at) on = IsComing d top rows at on
IsComingTo d top rows (Upright at) on = on ≡ false
IsComingTo d top rows (Contact c) on = IsComing d top rows (place c.row c.column) on
IsComingTo d top rows (Coil c) on = IsComing d top rows (place c.row c.column) on
IsComingTo d top rows (Box b) on = on ≡ false

-- the steps of the elements from n on, part by part, with what is told of each element before its own are passed
abbrev pub AreRead : Diagram → ℕ → List BoundBox → List Slot → ℕ → ℕ → List (List Step) → List Bool → Pass → Pass
    → Type 0
AreRead d top boxes slots dt n [] [] a b = b ≡ a
AreRead d top boxes slots dt n [] (bit ∷ bits) a b = ⊥
AreRead d top boxes slots dt n (part ∷ parts) [] a b = ⊥
AreRead d top boxes slots dt n (part ∷ parts) (bit ∷ bits) a b =
    (mid : Pass) × ((e : Element) → slice_get d.elements n ≡ Some e → IsComingTo d top a.rows e bit)
    × ArePassed boxes slots dt part a mid × AreRead d top boxes slots dt (n + 1) parts bits mid b

-- the first n elements were passed by these steps, and this is told of them
pub record AreReadTo (ds : List Declaration) (d : Diagram) (top : ℕ) (boxes : List BoundBox) (slots : List Slot)
    (dt n : ℕ) (steps : List Step) (bits : List Bool) (a b : Pass) : Type 0 where
  pub parts : List (List Step)
  pub long : length parts ≡ n
  pub each : (k : ℕ) (e : Element) (part : List Step) → slice_get d.elements k ≡ Some e → slice_get parts k ≡ Some part
      → AreStepsOf ds d top k e part
  pub whole : steps ≡ joined parts
  pub read : AreRead d top boxes slots dt 0 parts bits a b

-- the element with this number and the next one are places of one upright, the next one right below
pub record AreStacked (elements : List Element) (k : ℕ) : Type 0 where
  pub upper : Element
  pub lower : Element
  pub spot : Place
  pub first : slice_get elements k ≡ Some upper
  pub second : slice_get elements (k + 1) ≡ Some lower
  pub stands : Stands upper spot
  pub below : Stands lower (place (spot.row + 1) spot.column)

-- state comes to an element, or to one above it in its upright
pub data ComesAbove (elements : List Element) (comings : List Bool) : ℕ → Type 0 where
  here : {k : ℕ} → bit_at comings k ≡ true → ComesAbove elements comings k
  higher : {j k : ℕ} → k ≡ j + 1 → AreStacked elements j → ComesAbove elements comings j
      → ComesAbove elements comings k

-- state comes to an element, or to one below it in its upright
pub data ComesBelow (elements : List Element) (comings : List Bool) : ℕ → Type 0 where
  here : {k : ℕ} → bit_at comings k ≡ true → ComesBelow elements comings k
  lower : {k : ℕ} → AreStacked elements k → ComesBelow elements comings (k + 1) → ComesBelow elements comings k

-- of each of the first n elements it is told whether state comes to it, or to a place of its upright
pub record AreUprightsOn (elements : List Element) (comings : List Bool) (n : ℕ) (power : List Bool) : Type 0 where
  pub long : length power ≡ n
  pub each : (k : ℕ) → k < n
      → (bit_at power k ≡ true) ↔ (ComesAbove elements comings k ⊎ ComesBelow elements comings k)

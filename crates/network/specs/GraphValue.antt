-- A drawing as networks in order.
use Rattle.std.specs.Str.{str_eq_ignore_ascii_case}
use Rattle.std.specs.Prelude.{IsTrue, ℕ, ◌+◌, ◌<◌, ◌≤◌, ◌≡◌, List, Some, slice_get, Contains}
use Rattle.drawings.specs.declared.place.Place.{Place}
use Rattle.drawings.specs.declared.drawn_box.DrawnBox.{DrawnBox}
use Rattle.drawings.specs.declared.drawn_box.DrawnPin.{DrawnPin}
use Rattle.network.specs.declared.element.Element.{Element}
use Rattle.network.specs.declared.element.Element.TheVariants.{Box}
use Rattle.network.specs.Links.{Diagram}
use Rattle.network.specs.Apart.{AreApart, AreOnPage, Has, Precedes, first_place}

-- a drawing as networks: the number of its first line, the places of its left rail, and each network's elements
pub record GraphValue : Type 0 where
  pub first_line : ℕ
  pub rails : List Place
  pub networks : List (List Element)

-- a graph of its parts
abbrev pub graph_value : ℕ → List Place → List (List Element) → GraphValue
graph_value first_line rails networks = record { first_line = first_line; rails = rails; networks = networks }

-- a diagram of its parts
abbrev pub diagram : List Place → List Element → Diagram
diagram rails elements = record { rails = rails; elements = elements }

-- each box ends right of where it begins
abbrev pub AreWide : Diagram → Type 0
AreWide d = (b : DrawnBox) → Contains d.elements (Box b) → b.left < b.right

-- a box further left comes before
abbrev pub AreBoxesByColumn : Diagram → Type 0
AreBoxesByColumn d = (i j : ℕ) (a b : DrawnBox) → slice_get d.elements i ≡ Some (Box a)
    → slice_get d.elements j ≡ Some (Box b) → a.left < b.left → i < j

-- no two boxes have one name, without regard to case
abbrev pub AreBoxesApart : Diagram → Type 0
AreBoxesApart d = (i j : ℕ) (a b : DrawnBox) → slice_get d.elements i ≡ Some (Box a)
    → slice_get d.elements j ≡ Some (Box b)
    → IsTrue (str_eq_ignore_ascii_case a.instance b.instance) → i ≡ j

-- elements come by column, and in one column by row
abbrev pub AreInOrder : Diagram → Type 0
AreInOrder d = (i j : ℕ) (e f : Element) → i < j → slice_get d.elements i ≡ Some e
    → slice_get d.elements j ≡ Some f → Precedes (first_place e) (first_place f)

-- no place of an element is above its first place
abbrev pub AreFromTheirTop : Diagram → Type 0
AreFromTheirTop d = (e : Element) (p : Place) → Contains d.elements e → Has e p → (first_place e).row ≤ p.row

-- from the topmost to the lowest place there are at most 200 rows
abbrev pub IsLow : Diagram → Type 0
IsLow d = (e f : Element) (p q : Place) → Contains d.elements e → Contains d.elements f → Has e p → Has f q
    → q.row < p.row + 200

-- no place of another element lies within a box
abbrev pub AreBoxesClear : Diagram → Type 0
AreBoxesClear d = (j k : ℕ) (b : DrawnBox) (e : Element) (p : Place) → slice_get d.elements j ≡ Some (Box b)
    → slice_get d.elements k ≡ Some e → Has e p
    → b.top ≤ p.row → p.row ≤ b.bottom → b.left ≤ p.column → p.column ≤ b.right → j ≡ k

-- the pins of each box lie between its topmost and its lowest row
abbrev pub ArePinsWithin : Diagram → Type 0
ArePinsWithin d = (b : DrawnBox) (pin : DrawnPin) → Contains d.elements (Box b) → Contains b.pins pin
    → (b.top < pin.row) × (pin.row < b.bottom)

-- The elements of a network share no place with one another or with the rails, come by column and row,
-- and lie within the limits, in at most 200 rows.
-- Its boxes are wide, in order, of different names, with their pins inside, and no other element lies within one.
pub record IsSoundNetwork (d : Diagram) : Type 0 where
  pub apart : AreApart d
  pub on_page : AreOnPage d.elements
  pub order : AreInOrder d
  pub tops : AreFromTheirTop d
  pub low : IsLow d
  pub clear : AreBoxesClear d
  pub pins : ArePinsWithin d
  pub wide : AreWide d
  pub by_column : AreBoxesByColumn d
  pub names : AreBoxesApart d

-- each network is sound
pub record IsSoundGraph (g : GraphValue) : Type 0 where
  pub networks : (k : ℕ) (elements : List Element) → slice_get g.networks k ≡ Some elements
      → IsSoundNetwork (diagram g.rails elements)

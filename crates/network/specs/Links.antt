use Rattle.std.specs.Prelude.{◌≡◌, ℕ, ◌+◌, ◌≤◌, ◌⊎◌, List, Contains, Any}
use Rattle.drawings.specs.declared.place.Place.{Place}
use Rattle.drawings.specs.declared.drawn_box.DrawnBox.{DrawnBox}
use Rattle.drawings.specs.declared.drawn_box.Side.{Side}
use Rattle.drawings.specs.declared.drawn_box.Side.TheVariants.{Left, Right}
use Rattle.network.specs.declared.element.Element.{Element}
use Rattle.network.specs.declared.element.Element.TheVariants.{Wire, Join, Upright, Contact, Coil, Box}

-- what is drawn: the places of the left rail, and the elements
pub record Diagram : Type 0 where
  pub rails : List Place
  pub elements : List Element

-- the place in this row and column
abbrev pub place : ℕ → ℕ → Place
place row column = record { row = row; column = column }

-- the places of a symbol are the three from its first to the right
abbrev pub IsSymbolPlace : Place → Place → Type 0
IsSymbolPlace first p = (p.row ≡ first.row) × (first.column ≤ p.column) × (p.column ≤ first.column + 2)

-- p lies on the side of the box, on the row of a pin of that side
abbrev pub IsPinPlace : Side → DrawnBox → Place → Type 0
IsPinPlace Left b p = (p.column ≡ b.left) × Any (λ pin. (pin.side ≡ Left) × (pin.row ≡ p.row)) b.pins
IsPinPlace Right b p = (p.column ≡ b.right) × Any (λ pin. (pin.side ≡ Right) × (pin.row ≡ p.row)) b.pins

-- p is a place of this element from which state passes to the right
abbrev pub Gives : Element → Place → Type 0
Gives (Wire at) p = at ≡ p
Gives (Join at) p = at ≡ p
Gives (Upright at) p = ⊥
Gives (Contact c) p = IsSymbolPlace (place c.row c.column) p
Gives (Coil c) p = IsSymbolPlace (place c.row c.column) p
Gives (Box b) p = IsPinPlace Right b p

-- p is a place of this element to which state passes from the left
abbrev pub Takes : Element → Place → Type 0
Takes (Wire at) p = at ≡ p
Takes (Join at) p = at ≡ p
Takes (Upright at) p = ⊥
Takes (Contact c) p = IsSymbolPlace (place c.row c.column) p
Takes (Coil c) p = IsSymbolPlace (place c.row c.column) p
Takes (Box b) p = IsPinPlace Left b p

-- p is a place of an upright
abbrev pub Stands : Element → Place → Type 0
Stands (Wire at) p = ⊥
Stands (Join at) p = at ≡ p
Stands (Upright at) p = at ≡ p
Stands (Contact c) p = ⊥
Stands (Coil c) p = ⊥
Stands (Box b) p = ⊥

-- state passes from p to the place q on its right
pub record PassesRight (d : Diagram) (p q : Place) : Type 0 where
  pub row : q.row ≡ p.row
  pub column : q.column ≡ p.column + 1
  pub gives : Contains d.rails p ⊎ Any (λ e. Gives e p) d.elements
  pub takes : Any (λ e. Takes e q) d.elements

-- state passes from p to the place q above or below it in one upright
pub record PassesUpright (d : Diagram) (p q : Place) : Type 0 where
  pub row : (q.row ≡ p.row + 1) ⊎ (p.row ≡ q.row + 1)
  pub column : q.column ≡ p.column
  pub from : Any (λ e. Stands e p) d.elements
  pub to : Any (λ e. Stands e q) d.elements

-- state passes from p to q: to the right, or within one upright
abbrev pub Passes : Diagram → Place → Place → Type 0
Passes d p q = PassesRight d p q ⊎ PassesUpright d p q

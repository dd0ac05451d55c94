-- What matters, place by place, pin by pin and element by element.
use Rattle.std.specs.Prelude.{◌≡◌, ◌⊎◌, ℕ, List, Bool, Option, Some, All}
use Rattle.drawings.specs.declared.drawn_box.DrawnBox.{DrawnBox}
use Rattle.drawings.specs.declared.drawn_box.DrawnPin.{DrawnPin}
use Rattle.network.specs.declared.element.Element.{Element}
use Rattle.declared_names.specs.declared.declarations.Declaration.{Declaration}
use Rattle.declared_names.specs.Names.{place_of}
use Rattle.needed_networks.specs.Needs.{Changes, IsIdle, PinReads, PinStores, Reads}

-- the place, if there is one, matters
abbrev pub MattersAt : List Bool → Option ℕ → Type 0
MattersAt idle place = (k : ℕ) → place ≡ Some k → IsIdle idle k → ⊥

-- the place, if there is one, doesn't matter
abbrev pub IsIdleAt : List Bool → Option ℕ → Type 0
IsIdleAt idle place = (k : ℕ) → place ≡ Some k → IsIdle idle k

-- what a pin reads or stores at matters
abbrev pub PinMatters : List Declaration → List Bool → DrawnPin → Type 0
PinMatters ds idle pin = (k : ℕ) → PinReads ds pin k ⊎ PinStores ds pin k → IsIdle idle k → ⊥

-- what a pin stores at doesn't matter
abbrev pub PinIsIdle : List Declaration → List Bool → DrawnPin → Type 0
PinIsIdle ds idle pin = (k : ℕ) → PinStores ds pin k → IsIdle idle k

-- the instance of a box and what its pins read or store at matter
abbrev pub BoxMatters : List Declaration → List Bool → DrawnBox → Type 0
BoxMatters ds idle b = MattersAt idle (place_of ds b.instance) × All (PinMatters ds idle) b.pins

-- neither its instance nor what its pins store at matters
abbrev pub BoxIsIdle : List Declaration → List Bool → DrawnBox → Type 0
BoxIsIdle ds idle b = IsIdleAt idle (place_of ds b.instance) × All (PinIsIdle ds idle) b.pins

-- all that an element reads and changes matters
abbrev pub ElementMatters : List Declaration → List Bool → Element → Type 0
ElementMatters ds idle e = (k : ℕ) → Reads ds e k ⊎ Changes ds e k → IsIdle idle k → ⊥

-- nothing that an element changes matters
abbrev pub ElementIsIdle : List Declaration → List Bool → Element → Type 0
ElementIsIdle ds idle e = (k : ℕ) → Changes ds e k → IsIdle idle k

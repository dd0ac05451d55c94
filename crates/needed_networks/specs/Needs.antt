-- What a network reads and changes, and which networks can be left out.
use Rattle.std.specs.Prelude.{◌≡◌, ◌⊎◌, ℕ, List, Bool, true, false, Some, IsTrue, Contains, Any, MatchOption, slice_get, slice_index_or}
use Rattle.std.specs.List.{before_first}
use Rattle.drawings.specs.declared.drawn_box.DrawnPin.{DrawnPin}
use Rattle.drawings.specs.declared.drawn_box.Side.TheVariants.{Left, Right}
use Rattle.network.specs.declared.element.Element.{Element}
use Rattle.network.specs.declared.element.Element.TheVariants.{Wire, Join, Upright, Contact, Coil, Box}
use Rattle.network.specs.Links.{Diagram}
use Rattle.declared_names.specs.declared.declarations.Declaration.{Declaration}
use Rattle.declared_names.specs.Names.{place_of, is_dot}

-- the name, or the part of it before a dot, is declared at the place
abbrev pub IsReadAt : List Declaration → List ℕ → ℕ → Type 0
IsReadAt ds name place = place_of ds (before_first is_dot name) ≡ Some place

-- an input pin reads its operand
abbrev pub PinReads : List Declaration → DrawnPin → ℕ → Type 0
PinReads ds pin place = (pin.side ≡ Left) × MatchOption pin.operand ⊥ (λ o. IsReadAt ds o.text place)

-- an output pin stores at its operand
abbrev pub PinStores : List Declaration → DrawnPin → ℕ → Type 0
PinStores ds pin place = (pin.side ≡ Right) × MatchOption pin.operand ⊥ (λ o. place_of ds o.text ≡ Some place)

-- what stands at the place is read by an element: a contact reads its variable, or the instance of its output pin; a box
-- the operands of its input pins
abbrev pub Reads : List Declaration → Element → ℕ → Type 0
Reads ds (Wire at) place = ⊥
Reads ds (Join at) place = ⊥
Reads ds (Upright at) place = ⊥
Reads ds (Contact c) place = IsReadAt ds c.name place
Reads ds (Coil c) place = ⊥
Reads ds (Box b) place = Any (λ pin. PinReads ds pin place) b.pins

-- what stands at the place is changed by an element: a coil stores at its variable; a box makes a step of its instance, and
-- its output pins store at their operands
abbrev pub Changes : List Declaration → Element → ℕ → Type 0
Changes ds (Wire at) place = ⊥
Changes ds (Join at) place = ⊥
Changes ds (Upright at) place = ⊥
Changes ds (Contact c) place = ⊥
Changes ds (Coil c) place = place_of ds c.name ≡ Some place
Changes ds (Box b) place = (place_of ds b.instance ≡ Some place) ⊎ Any (λ pin. PinStores ds pin place) b.pins

-- the place has a mark: what stands there doesn't matter
abbrev pub IsIdle : List Bool → ℕ → Type 0
IsIdle idle place = IsTrue (slice_index_or idle place false)

-- all that the network reads and changes matters
abbrev pub IsInside : List Declaration → List Bool → Diagram → Type 0
IsInside ds idle d = (e : Element) (place : ℕ) → Contains d.elements e → Reads ds e place ⊎ Changes ds e place → IsIdle idle place → ⊥

-- nothing that the network changes matters
abbrev pub IsOutside : List Declaration → List Bool → Diagram → Type 0
IsOutside ds idle d = (e : Element) (place : ℕ) → Contains d.elements e → Changes ds e place → IsIdle idle place

-- so it is with a network that is left out, or isn't
abbrev pub IsPlaced : List Declaration → List Bool → Diagram → Bool → Type 0
IsPlaced ds idle d true = IsOutside ds idle d
IsPlaced ds idle d false = IsInside ds idle d

-- A mark for each network that is left out, none for one beyond the last mark: all that the others read and change
-- matters, and nothing that those change does.
abbrev pub IsClosed : List Declaration → List Bool → List Bool → List Diagram → Type 0
IsClosed ds idle omitted networks = (k : ℕ) (d : Diagram) → slice_get networks k ≡ Some d
    → IsPlaced ds idle d (slice_index_or omitted k false)

use Rattle.std.specs.Prelude.{◌≡◌, ℕ, ◌+◌, Some, slice_get}
use Rattle.drawings.specs.declared.place.Place.{Place}
use Rattle.network.specs.declared.element.Element.{Element}
use Rattle.network.specs.declared.element.Element.TheVariants.{Wire, Join, Upright, Contact, Coil, Box}
use Rattle.network.specs.Links.{Diagram}

-- p is the last place of this symbol
abbrev pub EndsAt : Element → Place → Type 0
EndsAt (Wire at) p = ⊥
EndsAt (Join at) p = ⊥
EndsAt (Upright at) p = ⊥
EndsAt (Contact c) p = (p.row ≡ c.row) × (p.column ≡ c.column + 2)
EndsAt (Coil c) p = (p.row ≡ c.row) × (p.column ≡ c.column + 2)
EndsAt (Box b) p = ⊥

-- the element at k is a symbol with its last place at p
abbrev pub SymbolEndsAt : Diagram → ℕ → Place → Type 0
SymbolEndsAt d k p = (e : Element) × (slice_get d.elements k ≡ Some e) × EndsAt e p

use Rattle.std.specs.Prelude.{List, All}
use Rattle.drawings.specs.declared.place.Place.{Place}
use Rattle.network.specs.declared.element.Element.{Element}
use Rattle.network.specs.Links.{Diagram}
use Rattle.name_faults.specs.declared.bind_fault.BindKind.{BindKind}
use Rattle.declared_names.specs.declared.declarations.Declaration.{Declaration}
use Rattle.name_faults.specs.BindFaults.{IsFaultIn}

-- nothing is wrong with a network: it has no fault of any kind at any place
unfoldable pub IsBoundNetwork : List Declaration → List Element → Type 0
IsBoundNetwork ds elements = (k : BindKind) (p : Place) → IsFaultIn ds elements k p → ⊥

-- a ladder can be made of these networks
abbrev pub CanBind : List Declaration → List Diagram → Type 0
CanBind ds networks = All (λ d. IsBoundNetwork ds d.elements) networks

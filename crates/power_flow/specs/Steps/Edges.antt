-- Which elements have a memory: the contacts and coils of edges.
use Rattle.std.specs.Prelude.{◌≡◌, List, Bool, true, false, All}
use Rattle.drawings.specs.declared.contact.ContactKind.{ContactKind}
use Rattle.drawings.specs.declared.contact.ContactKind.TheVariants as contact
use Rattle.drawings.specs.declared.coil.CoilKind.{CoilKind}
use Rattle.drawings.specs.declared.coil.CoilKind.TheVariants as coil
use Rattle.network.specs.declared.element.Element.{Element}
use Rattle.network.specs.declared.element.Element.TheVariants.{Wire, Join, Upright, Contact, Coil, Box}
use Rattle.power_flow.specs.declared.steps.circuit.Circuit.{Circuit}

abbrev pub is_edge_contact : ContactKind → Bool
is_edge_contact contact.Plain = false
is_edge_contact contact.Negated = false
is_edge_contact contact.Rise = true
is_edge_contact contact.Fall = true

abbrev pub is_edge_coil : CoilKind → Bool
is_edge_coil coil.Plain = false
is_edge_coil coil.Negated = false
is_edge_coil coil.Set = false
is_edge_coil coil.Reset = false
is_edge_coil coil.Rise = true
is_edge_coil coil.Fall = true

-- whether an element is a contact or a coil of an edge
abbrev pub is_edge : Element → Bool
is_edge (Wire at) = false
is_edge (Join at) = false
is_edge (Upright at) = false
is_edge (Contact c) = is_edge_contact c.kind
is_edge (Coil c) = is_edge_coil c.kind
is_edge (Box b) = false

-- no element is one of an edge
abbrev pub AreEdgeless : List Element → Type 0
AreEdgeless elements = All (λ e. is_edge e ≡ false) elements

-- no circuit has an edge
abbrev pub AreEdgelessCircuits : List Circuit → Type 0
AreEdgelessCircuits circuits = All (λ (c : Circuit). AreEdgeless c.elements.items) circuits

-- all memories are OFF
abbrev pub AreOff : List Bool → Type 0
AreOff memories = All (λ m. m ≡ false) memories

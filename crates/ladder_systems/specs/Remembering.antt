-- Which elements remember anything from scan to scan.
use Rattle.std.specs.Prelude.{List, [], ◌∷◌, Bool, true, false, map}
use Rattle.std.specs.List.{flat_map}
use Rattle.drawings.specs.declared.coil.CoilKind.{CoilKind}
use Rattle.drawings.specs.declared.coil.CoilKind.TheVariants as coil
use Rattle.drawings.specs.declared.contact.ContactKind.{ContactKind}
use Rattle.drawings.specs.declared.contact.ContactKind.TheVariants as contact
use Rattle.network.specs.Links.{Diagram}
use Rattle.network.specs.declared.element.Element.{Element}
use Rattle.network.specs.declared.element.Element.TheVariants.{Wire, Join, Upright, Contact, Coil, Box}

-- a contact of an edge does
abbrev pub is_edge_contact : ContactKind → Bool
is_edge_contact contact.Plain = false
is_edge_contact contact.Negated = false
is_edge_contact contact.Rise = true
is_edge_contact contact.Fall = true

-- and a coil of an edge
abbrev pub is_edge_coil : CoilKind → Bool
is_edge_coil coil.Plain = false
is_edge_coil coil.Negated = false
is_edge_coil coil.Set = false
is_edge_coil coil.Reset = false
is_edge_coil coil.Rise = true
is_edge_coil coil.Fall = true

abbrev pub remembers : Element → Bool
remembers (Wire at) = false
remembers (Join at) = false
remembers (Upright at) = false
remembers (Contact c) = is_edge_contact c.kind
remembers (Coil c) = is_edge_coil c.kind
remembers (Box b) = false

-- a mark for each memory: whether its element remembers anything
abbrev pub memory_marks : List Diagram → List Bool
memory_marks networks = flat_map (λ (d : Diagram). map remembers d.elements) networks

-- those that are marked
abbrev pub marked : {A : Type 0} → List Bool → List A → List A
marked [] xs = []
marked (mark ∷ marks) [] = []
marked (true ∷ marks) (x ∷ xs) = x ∷ marked marks xs
marked (false ∷ marks) (x ∷ xs) = marked marks xs

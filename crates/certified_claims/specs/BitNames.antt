-- What the state bits of a ladder are called.
use Rattle.std.specs.Prelude.{ℕ, ◌++◌, if◌then◌else◌, List, [], ◌∷◌, codes, map}
use Rattle.std.specs.Fmt.{decimal}
use Rattle.std.specs.List.{flat_map, range_with_len}
use Rattle.std_blocks.specs.declared.block_type.BlockType.{BlockType}
use Rattle.std_blocks.specs.declared.block_type.BlockType.TheVariants.{SR, RS, CTU, CTD, CTUD, TP, TON, TOF}
use Rattle.drawings.specs.declared.place.Place.{Place}
use Rattle.network.specs.Links.{Diagram, place}
use Rattle.network.specs.declared.element.Element.{Element}
use Rattle.network.specs.declared.element.Element.TheVariants.{Wire, Join, Upright, Contact, Coil, Box}
use Rattle.ladder_systems.specs.Remembering.{is_edge_coil, is_edge_contact}
use Rattle.declared_names.specs.declared.declarations.Declaration.{Declaration}
use Rattle.declared_names.specs.declared.declarations.Declared.{Declared}
use Rattle.declared_names.specs.declared.declarations.Declared.TheVariants.{Input, Output, Local, Instance}
use Rattle.declared_names.specs.declared.declarations.Kind.{Kind}
use Rattle.declared_names.specs.declared.declarations.Kind.TheVariants as kind

-- a part of what has this name
abbrev pub part : List ℕ → List ℕ → List ℕ
part name of = name ++ codes "." ++ of

-- so many bits of a number, the lowest one 0
abbrev pub digits : List ℕ → ℕ → List (List ℕ)
digits name count = map (λ (k : ℕ). part name (decimal k)) (range_with_len 0 count)

-- those of a variable
abbrev pub variable_bits : List ℕ → Kind → List (List ℕ)
variable_bits name kind.Bool = name ∷ []
variable_bits name kind.Int = digits name 16
variable_bits name kind.Time = digits name 32

-- those of a block: what it keeps of its inputs, its outputs, its count or its time
abbrev pub block_bits : List ℕ → BlockType → List (List ℕ)
block_bits name SR = part name (codes "Q1") ∷ []
block_bits name RS = part name (codes "Q1") ∷ []
block_bits name CTU = part name (codes "CU") ∷ part name (codes "Q") ∷ digits (part name (codes "CV")) 16
block_bits name CTD = part name (codes "CD") ∷ part name (codes "Q") ∷ digits (part name (codes "CV")) 16
block_bits name CTUD =
    part name (codes "CU") ∷ part name (codes "CD") ∷ part name (codes "QU") ∷ part name (codes "QD") ∷ digits (part name (codes "CV")) 16
block_bits name TP = part name (codes "IN") ∷ part name (codes "Q") ∷ digits (part name (codes "ET")) 32
block_bits name TON = part name (codes "IN") ∷ part name (codes "Q") ∷ digits (part name (codes "ET")) 32
block_bits name TOF = part name (codes "IN") ∷ part name (codes "Q") ∷ digits (part name (codes "ET")) 32

-- those of what is declared
abbrev pub declared_bits : List ℕ → Declared → List (List ℕ)
declared_bits name (Input k) = variable_bits name k
declared_bits name (Output k) = variable_bits name k
declared_bits name (Local k) = variable_bits name k
declared_bits name (Instance b) = block_bits name b

-- a place, by its row and its column
abbrev pub place_text : Place → List ℕ
place_text p = decimal p.row ++ codes ":" ++ decimal p.column

-- what a symbol is called, by its variable and its place
abbrev pub name_at : List ℕ → Place → List ℕ
name_at name at = name ++ codes " at " ++ place_text at

-- the memory of a contact or a coil of an edge
abbrev pub memory_bits : Element → List (List ℕ)
memory_bits (Wire at) = []
memory_bits (Join at) = []
memory_bits (Upright at) = []
memory_bits (Contact c) = if is_edge_contact c.kind then name_at c.name (place c.row c.column) ∷ [] else []
memory_bits (Coil c) = if is_edge_coil c.kind then name_at c.name (place c.row c.column) ∷ [] else []
memory_bits (Box b) = []

-- those of all declared names in their order, and behind them those of the memories
abbrev pub bit_names : List Declaration → List Diagram → List (List ℕ)
bit_names ds networks = flat_map (λ (d : Declaration). declared_bits d.name d.declared) ds
    ++ flat_map (λ (n : Diagram). flat_map memory_bits n.elements) networks

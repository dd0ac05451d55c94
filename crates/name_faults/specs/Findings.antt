use Rattle.std.specs.Prelude.{◌≡◌, ℕ, ◌<◌, ◌≤◌, ◌⊎◌, List, Any}
use Rattle.drawings.specs.Lines.{line_of_row}
use Rattle.network.specs.declared.element.Element.{Element}
use Rattle.network.specs.GraphValue.{GraphValue}
use Rattle.name_faults.specs.declared.bind_fault.BindKind.{BindKind}
use Rattle.name_faults.specs.declared.bind_fault.BindKind.TheVariants.{UnknownName, WrongKind, WritesInput, UnknownPin, PinMissing, LiteralOutOfRange, Memory}
use Rattle.name_faults.specs.declared.finding.Finding.{Finding}
use Rattle.name_faults.specs.declared.bind_fault.BindFault.{BindFault}
use Rattle.declared_names.specs.declared.declarations.Declaration.{Declaration}
use Rattle.network.specs.Links.{place}
use Rattle.name_faults.specs.BindFaults.{IsFaultIn}

-- the order in which the kinds are sought
abbrev pub kind_rank : BindKind → ℕ
kind_rank UnknownName = 1
kind_rank WrongKind = 2
kind_rank WritesInput = 3
kind_rank UnknownPin = 4
kind_rank PinMissing = 5
kind_rank LiteralOutOfRange = 6
kind_rank Memory = 7

-- f comes no later than g: by kind, then by row, then by column
abbrev pub ComesNoLater : Finding → Finding → Type 0
ComesNoLater f g = (kind_rank f.kind < kind_rank g.kind)
    ⊎ ((kind_rank f.kind ≡ kind_rank g.kind) × ((f.row < g.row) ⊎ ((f.row ≡ g.row) × (f.column ≤ g.column))))

-- a fault as it is answered, in a drawing whose first line has this number
abbrev pub bind_fault : ℕ → Finding → BindFault
bind_fault first_line f = record {
  kind = f.kind;
  line = line_of_row first_line f.row;
  column = f.column;
}

-- one of the networks has this fault
abbrev pub IsFault : List Declaration → List (List Element) → Finding → Type 0
IsFault ds networks f = Any (λ elements. IsFaultIn ds elements f.kind (place f.row f.column)) networks

-- the fault is the first one of the graph's networks, by kind and place
abbrev pub IsFirstBindFault : List Declaration → GraphValue → BindFault → Type 0
IsFirstBindFault ds graph fault = (f : Finding) × (fault ≡ bind_fault graph.first_line f)
    × IsFault ds graph.networks f × ((g : Finding) → IsFault ds graph.networks g → ComesNoLater f g)

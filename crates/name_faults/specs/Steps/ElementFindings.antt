-- The faults of the networks as the bodies find them, element by element. They are those of `BindFaults`.
use Rattle.std.specs.Prelude.{◌≡◌, ℕ, List, [], ◌∷◌, Bool, Option, Some, None, Result, Ok, Err, if◌then◌else◌, All, Contains}
use Rattle.std.specs.List.{before_first, flat_map}
use Rattle.network.specs.declared.element.Element.{Element}
use Rattle.network.specs.declared.element.Element.TheVariants.{Wire, Join, Upright, Contact, Coil, Box}
use Rattle.network.specs.Links.{place}
use Rattle.name_faults.specs.declared.finding.Finding.{Finding}
use Rattle.name_faults.specs.declared.bind_fault.BindKind.{BindKind}
use Rattle.name_faults.specs.declared.bind_fault.BindKind.TheVariants.{UnknownName, WrongKind, WritesInput}
use Rattle.declared_names.specs.declared.declarations.Declaration.{Declaration}
use Rattle.declared_names.specs.declared.declarations.Declared.{Declared}
use Rattle.declared_names.specs.declared.declarations.Declared.TheVariants.{Input, Output, Local, Instance}
use Rattle.declared_names.specs.declared.declarations.Kind.{Kind}
use Rattle.declared_names.specs.declared.declarations.Kind.TheVariants as kind
use Rattle.declared_names.specs.Names.{is_dot}
use Rattle.name_faults.specs.Lookup.{declared_at, is_dotted}
use Rattle.name_faults.specs.Findings.{ComesNoLater}
use Rattle.name_faults.specs.Steps.BoxFindings.{fault_here, read_name_fault, name_kind, box_findings}

-- a coil writes a BOOL
abbrev pub kind_fault : Kind → Option BindKind
kind_fault kind.Bool = None
kind_fault kind.Int = Some WrongKind
kind_fault kind.Time = Some WrongKind

-- what is wrong with what a coil writes
abbrev pub write_fault : Declared → Option BindKind
write_fault (Input kind.Bool) = Some WritesInput
write_fault (Input kind.Int) = Some WrongKind
write_fault (Input kind.Time) = Some WrongKind
write_fault (Output k) = kind_fault k
write_fault (Local k) = kind_fault k
write_fault (Instance b) = Some WrongKind

-- what was found at the first part of a name is a variable only if that is all of the name
abbrev pub as_variable : Bool → Option Declared → Result Declared BindKind
as_variable dotted None = Err UnknownName
as_variable dotted (Some declared) = if dotted then Err WrongKind else Ok declared

-- what is declared at the name of a symbol
unfoldable pub variable_declared : List Declaration → List ℕ → Result Declared BindKind
variable_declared ds name = as_variable (is_dotted name) (declared_at ds (before_first is_dot name))

-- what is wrong with a name, or else with what is declared there
abbrev pub fault_with : (Declared → Option BindKind) → Result Declared BindKind → Option BindKind
fault_with fault (Ok declared) = fault declared
fault_with fault (Err k) = Some k

-- the faults of an element, each with its kind and place
abbrev pub element_findings : List Declaration → List Element → Element → List (Option Finding)
element_findings ds elements (Wire at) = []
element_findings ds elements (Join at) = []
element_findings ds elements (Upright at) = []
element_findings ds elements (Contact c) =
    fault_here (read_name_fault (Some kind.Bool) (name_kind ds c.name)) (place c.row c.column) ∷ []
element_findings ds elements (Coil c) =
    fault_here (fault_with write_fault (variable_declared ds c.name)) (place c.row c.column) ∷ []
element_findings ds elements (Box b) = box_findings ds elements b

-- nothing was found wrong with an element of a network
abbrev pub IsBound : List Declaration → List Element → Element → Type 0
IsBound ds elements e = All (λ o. o ≡ None) (element_findings ds elements e)

-- nothing was found wrong with a network
abbrev pub HasNoFinding : List Declaration → List Element → Type 0
HasNoFinding ds elements = All (IsBound ds elements) elements

-- the faults of a network, element by element
abbrev pub network_findings : List Declaration → List Element → List (Option Finding)
network_findings ds elements = flat_map (element_findings ds elements) elements

-- the faults of all networks
unfoldable pub findings : List Declaration → List (List Element) → List (Option Finding)
findings ds networks = flat_map (network_findings ds) networks

-- there is no fault in the list, or this is the first one by kind and place
abbrev pub IsFirstFinding : List (Option Finding) → Option Finding → Type 0
IsFirstFinding found None = All (λ o. o ≡ None) found
IsFirstFinding found (Some f) = Contains found (Some f) × All (λ o. (g : Finding) → o ≡ Some g → ComesNoLater f g) found

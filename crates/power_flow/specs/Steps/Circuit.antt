use Rattle.std.specs.Prelude.{◌≡◌, ℕ, ◌+◌, ◌<◌, ◌≤◌, List, [], ◌∷◌, Option, Some, None, IfSome, All, Contains, length, map, slice_get}
use Rattle.std.specs.List.{filter_map, enumerate_from, AllByRecursion}
use Rattle.drawings.specs.declared.place.Place.{Place}
use Rattle.drawings.specs.declared.coil.CoilKind.TheVariants.{Plain}
use Rattle.network.specs.declared.element.Element.{Element}
use Rattle.network.specs.declared.element.Element.TheVariants.{Wire, Join, Upright, Contact, Coil, Box}
use Rattle.network.specs.Links.{Diagram}
use Rattle.network.specs.Apart.{Has}
use Rattle.network.specs.GraphValue.{diagram, IsSoundNetwork}
use Rattle.declared_names.specs.declared.declarations.Declaration.{Declaration}
use Rattle.declared_names.specs.declared.declarations.Declared.{Declared}
use Rattle.declared_names.specs.declared.declarations.Declared.TheVariants.{Input, Output, Local, Instance}
use Rattle.declared_names.specs.declared.declarations.Kind.TheVariants as kind
use Rattle.power_flow.specs.declared.steps.circuit.Circuit.{Circuit}
use Rattle.scan_steps.specs.declared.bound_contact.VariableContact.{VariableContact}
use Rattle.scan_steps.specs.declared.step.Step.{Step}
use Rattle.scan_steps.specs.declared.step.Step.TheVariants as step
use Rattle.scan_steps.specs.declared.step.BoundCoil.{BoundCoil}
use Rattle.scan_steps.specs.declared.bound_box.BoundBox.{BoundBox}
use Rattle.scan_steps.specs.declared.rung.Rung.{Rung}
use Rattle.scan_steps.specs.Steps.Passing.{IsStepIn}
use Rattle.declared_names.specs.Names.{place_of}
use Rattle.name_faults.specs.Steps.Named.{AreNamed}
use Rattle.power_flow.specs.Steps.Columns.{AreSteps}
use Rattle.power_flow.specs.Steps.Fused.{singles}
use Rattle.power_flow.specs.Steps.BoxTable.{AreBoundBoxes}

-- the lists of a circuit fit each other
pub record HasShape (c : Circuit) : Type 0 where
  pub low : c.rows ≤ 200
  pub steps_in : All
      (λ s. IsStepIn c.rows (length c.elements.items) (length c.coils.items) (length c.boxes.items) s) c.steps.items
  pub coils_in : All (λ x. x.memory < length c.elements.items) c.coils.items
  pub outputs_in : All (λ e. All (λ o. o.row < c.rows) e.outputs.items) c.boxes.items

-- the element with the number k, bound if it is a coil
abbrev pub bound_coil : List Declaration → ℕ → Element → Option BoundCoil
bound_coil ds k (Wire at) = None
bound_coil ds k (Join at) = None
bound_coil ds k (Upright at) = None
bound_coil ds k (Contact c) = None
bound_coil ds k (Coil c) = Some record { kind = c.kind; place = place_of ds c.name; memory = k }
bound_coil ds k (Box b) = None

-- the coils among the elements, in their order
unfoldable pub bound_coils : List Declaration → List Element → List BoundCoil
bound_coils ds elements = filter_map (λ e. bound_coil ds e.0 e.1) (enumerate_from 0 elements)

-- a BOOL is declared there
abbrev pub IsBool : Declared → Type 0
IsBool (Input k) = k ≡ kind.Bool
IsBool (Output k) = k ≡ kind.Bool
IsBool (Local k) = k ≡ kind.Bool
IsBool (Instance b) = ⊥

pub record IsBoolAt (ds : List Declaration) (place : ℕ) : Type 0 where
  pub entry : Declaration
  pub at : slice_get ds place ≡ Some entry
  pub bool : IsBool entry.declared

-- the steps, coils and boxes are those of one rung, with these contacts of declared names and a plain coil of the BOOL
-- at this place
pub record IsRung (ds : List Declaration) (steps : List Step) (coils : List BoundCoil) (boxes : List BoundBox)
    (contacts : List VariableContact) (place : ℕ) : Type 0 where
  pub row : ℕ
  pub number : ℕ
  pub coil : BoundCoil
  pub steps_are : steps ≡ step.Rung row number contacts ∷ []
  pub coils_are : coils ≡ coil ∷ []
  pub no_box : boxes ≡ []
  pub plain : coil.kind ≡ Plain
  pub stored : coil.place ≡ Some place
  pub within : All (λ (v : VariableContact). v.place < length ds) contacts
  pub bool : IsBoolAt ds place

-- the circuit is made of the diagram, with the names of the declarations
pub record IsCircuit (ds : List Declaration) (d : Diagram) (c : Circuit) : Type 0 where
  pub elements : d.elements ≡ c.elements.items
  pub sound : IsSoundNetwork d
  pub top : ℕ
  pub rows : (e : Element) (p : Place) → Contains d.elements e → Has e p → (top ≤ p.row) × (p.row < top + c.rows)
  pub plain : List Step
  pub steps : AreSteps ds d top plain
  pub fused : singles c.steps.items ≡ singles plain
  pub coils : c.coils.items ≡ bound_coils ds d.elements
  pub boxes : AreBoundBoxes ds d top c.boxes.items
  pub named : AreNamed ds d.elements
  pub rung : IfSome c.rung (λ (r : Rung). IsRung ds c.steps.items c.coils.items c.boxes.items r.contacts.items r.coil)

-- there is room for a scan of the circuit
pub record HasRoom (rows links results : ℕ) (c : Circuit) : Type 0 where
  pub shape : HasShape c
  pub rows_in : c.rows ≤ rows
  pub links_in : length c.coils.items ≤ links
  pub results_in : length c.boxes.items ≤ results

-- what a circuit is made of, with the places of the left rail
abbrev pub circuit_diagram : List Place → Circuit → Diagram
circuit_diagram rails c = diagram rails c.elements.items

-- the elements of each circuit
abbrev pub all_elements : List Circuit → List (List Element)
all_elements circuits = map (λ (c : Circuit). c.elements.items) circuits

-- what the circuits are made of, with the places of the left rail
abbrev pub circuit_diagrams : List Place → List Circuit → List Diagram
circuit_diagrams rails circuits = map (circuit_diagram rails) circuits

-- each network is sound, with the places of the left rail
abbrev pub AreSoundNetworks : List Place → List (List Element) → Type 0
AreSoundNetworks rails networks = (k : ℕ) (elements : List Element) → slice_get networks k ≡ Some elements
    → IsSoundNetwork (diagram rails elements)

-- each circuit is that of its diagram
abbrev pub AreCircuits : List Declaration → List Place → List Circuit → Type 0
AreCircuits ds rails circuits = AllByRecursion (λ c. IsCircuit ds (circuit_diagram rails c) c) circuits

use Rattle.std.specs.Prelude.{◌≡◌, ℕ, List, Bool, Option, Some, None, slice_get, length, map, sum_by}
use Rattle.std.specs.Option.{option_and_then}
use Rattle.network.specs.Links.{Diagram}
use Rattle.network.specs.GraphValue.{GraphValue, diagram}
use Rattle.declared_names.specs.declared.declarations.Declaration.{Declaration}
use Rattle.declared_names.specs.declared.declarations.Declared.{Declared}
use Rattle.declared_names.specs.declared.declarations.Declared.TheVariants.{Input, Output, Local, Instance}
use Rattle.scan_steps.specs.declared.slot.Slot.{Slot}
use Rattle.power_flow.specs.StateValue.{StateValue}
use Rattle.scan_steps.specs.Slots.{AreSlotsOf}
use Rattle.declared_names.specs.Names.{place_of}
use Rattle.name_faults.specs.Binding.{CanBind}
use Rattle.power_flow.specs.Scan.{ScanMeaning}

-- a ladder: its declarations, its networks in order, and how many waiting places a scan needs
pub record LadderValue : Type 0 where
  pub declarations : List Declaration
  pub networks : List Diagram
  pub waiting_links : ℕ
  pub waiting_results : ℕ

-- the networks of a graph, each with the places of the left rail
abbrev pub diagrams : GraphValue → List Diagram
diagrams graph = map (diagram graph.rails) graph.networks

-- the ladder is that of the graph, with the names bound to these declarations
abbrev pub IsLadderOfGraph : List Declaration → GraphValue → LadderValue → Type 0
IsLadderOfGraph ds graph l = (l.declarations ≡ ds) × (l.networks ≡ diagrams graph) × CanBind ds (diagrams graph)

-- the names of the graph can't be bound to these declarations
abbrev pub CannotBind : List Declaration → GraphValue → Type 0
CannotBind ds graph = CanBind ds (diagrams graph) → ⊥

-- a state has the ladder's slots with their kinds, its memories and its waiting places
pub record Fits (l : LadderValue) (s : StateValue) : Type 0 where
  pub slots : AreSlotsOf l.declarations s.slots
  pub memories : length s.memories ≡ sum_by (λ d. length d.elements) l.networks
  pub waiting_links : s.waiting_links ≡ l.waiting_links
  pub waiting_results : s.waiting_results ≡ l.waiting_results

-- a scan of the ladder leads from one state to the other
abbrev pub Scans : LadderValue → ℕ → StateValue → StateValue → Type 0
Scans l dt old new = ScanMeaning l.declarations dt l.networks old.slots old.memories new.slots new.memories

-- the state with these values, blocks and memories, and with the ladder's waiting places
abbrev pub holding : LadderValue → List Slot → List Bool → StateValue
holding l slots memories = record {
  slots = slots;
  memories = memories;
  waiting_links = l.waiting_links;
  waiting_results = l.waiting_results;
}

-- the place, if a variable is declared there
abbrev pub place_if_variable : ℕ → Declared → Option ℕ
place_if_variable k (Input kind) = Some k
place_if_variable k (Output kind) = Some k
place_if_variable k (Local kind) = Some k
place_if_variable k (Instance b) = None

-- the place of a variable by its name
unfoldable pub variable_place : List Declaration → List ℕ → Option ℕ
variable_place ds name =
    option_and_then
    (λ k. option_and_then (λ (e : Declaration). place_if_variable k e.declared) (slice_get ds k))
    (place_of ds name)

-- The steps of a scan through the columns of a network.
use Rattle.std.specs.Prelude.{◌≡◌, ℕ, ◌+◌, ◌-◌, ◌≤◌, ◌⊎◌, List, [], ◌∷◌, ◌++◌, Option, Some, None, MatchOption, Contains, Any, slice_get, length, take}
use Rattle.std.specs.List.{AllZip, filter_map}
use Rattle.drawings.specs.declared.place.Place.{Place}
use Rattle.drawings.specs.Symbols.{Contact as DrawnContact}
use Rattle.drawings.specs.declared.drawn_box.DrawnBox.{DrawnBox}
use Rattle.drawings.specs.declared.drawn_box.DrawnPin.{DrawnPin}
use Rattle.drawings.specs.declared.drawn_box.Side.{Side}
use Rattle.drawings.specs.declared.drawn_box.Side.TheVariants.{Left, Right}
use Rattle.network.specs.declared.element.Element.{Element}
use Rattle.network.specs.declared.element.Element.TheVariants.{Wire, Join, Upright, Contact, Coil, Box}
use Rattle.network.specs.Links.{Diagram, place, Gives, Takes, Stands}
use Rattle.network.specs.Apart.{first_place}
use Rattle.declared_names.specs.declared.declarations.Declaration.{Declaration}
use Rattle.scan_steps.specs.declared.step.Step.{Step}
use Rattle.scan_steps.specs.declared.step.Step.TheVariants as step
use Rattle.power_flow.specs.Steps.NameSources.{name_source}
use Rattle.power_flow.specs.Waiting.{boxes_of, coils_of}

-- state can come to the place p of this element, or the element begins there
abbrev pub IsStop : Element → Place → Type 0
IsStop e p = (first_place e ≡ p) ⊎ (Takes e p ⊎ Stands e p)

-- an element leads to p from its left
pub record IsLed (d : Diagram) (p : Place) : Type 0 where
  pub from : Place
  pub row : p.row ≡ from.row
  pub column : p.column ≡ from.column + 1
  pub gives : Any (λ e. Gives e from) d.elements

-- the left rail stands on the left of p
pub record IsAtRail (d : Diagram) (p : Place) : Type 0 where
  pub from : Place
  pub row : p.row ≡ from.row
  pub column : p.column ≡ from.column + 1
  pub rail : Contains d.rails from

-- how the state of a row begins at p: it goes on, or comes from the left rail, or is OFF
pub data Begins (d : Diagram) (top : ℕ) (p : Place) : List Step → Type 0 where
  goes_on : IsLed d p → Begins d top p []
  at_rail : IsAtRail d p → Begins d top p (step.Rail (p.row - top) ∷ [])
  is_off : (IsLed d p → ⊥) → (IsAtRail d p → ⊥) → Begins d top p (step.Off (p.row - top) ∷ [])

-- a place of an upright is at this row and column
abbrev pub StandsIn : Diagram → ℕ → ℕ → Type 0
StandsIn d row column = Any (λ e. Stands e (place row column)) d.elements

-- the rows from first to last are those of one upright
pub record IsUpright (d : Diagram) (column first last : ℕ) : Type 0 where
  pub order : first ≤ last
  pub each : (r : ℕ) → first ≤ r → r ≤ last → StandsIn d r column
  pub above : (r : ℕ) → r + 1 ≡ first → StandsIn d r column → ⊥
  pub below : StandsIn d (last + 1) column → ⊥

-- at the lowest place of an upright its rows are joined
pub data Joins (d : Diagram) (top : ℕ) (p : Place) : List Step → Type 0 where
  within : StandsIn d (p.row + 1) p.column → Joins d top p []
  lowest : (first : ℕ) → IsUpright d p.column first p.row
      → Joins d top p (step.Upright (first - top) (p.row - top) ∷ [])

-- the pins of the left side, in their order
abbrev pub left_pin : DrawnPin → Side → Option DrawnPin
left_pin pin Left = Some pin
left_pin pin Right = None

abbrev pub left_pins : List DrawnPin → List DrawnPin
left_pins pins = filter_map (λ pin. left_pin pin pin.side) pins

-- the steps at a pin of the left side: none where it has an operand, and so reads no state
abbrev pub IsLeftPinBegun : Diagram → ℕ → DrawnBox → DrawnPin → List Step → Type 0
IsLeftPinBegun d top b pin begin = MatchOption pin.operand (Begins d top (place pin.row b.left) begin) (λ o. begin ≡ [])

-- lists one after the other
abbrev pub joined : List (List Step) → List Step
joined [] = []
joined (part ∷ parts) = part ++ joined parts

-- the step at the contact with the number k, in this row
abbrev pub contact_step : List Declaration → DrawnContact → ℕ → ℕ → Step
contact_step ds c row k = step.Contact (record { kind = c.kind; row = row; source = name_source ds c.name; memory = k })

-- the steps at the element with the number k
abbrev pub AreStepsOf : List Declaration → Diagram → ℕ → ℕ → Element → List Step → Type 0
AreStepsOf ds d top k (Wire at) steps = Begins d top at steps
AreStepsOf ds d top k (Join at) steps = (begin end : List Step) × Begins d top at begin × Joins d top at end
    × (steps ≡ begin ++ end)
AreStepsOf ds d top k (Upright at) steps = (end : List Step) × Joins d top at end
    × (steps ≡ step.Off (at.row - top) ∷ end)
AreStepsOf ds d top k (Contact c) steps = (begin : List Step) × Begins d top (place c.row c.column) begin
    × (steps ≡ begin ++ contact_step ds c (c.row - top) k ∷ [])
AreStepsOf ds d top k (Coil c) steps = (begin : List Step) × Begins d top (place c.row c.column) begin
    × (steps ≡ begin ++ step.Coil (c.row - top) (length (coils_of (take k d.elements))) ∷ [])
AreStepsOf ds d top k (Box b) steps = (begins : List (List Step))
    × AllZip (IsLeftPinBegun d top b) (left_pins b.pins) begins
    × (steps ≡ joined begins ++ step.Box (length (boxes_of (take k d.elements))) ∷ [])

-- the steps are those of the elements, in their order
pub record AreSteps (ds : List Declaration) (d : Diagram) (top : ℕ) (steps : List Step) : Type 0 where
  pub parts : List (List Step)
  pub long : length parts ≡ length d.elements
  pub each : (k : ℕ) (e : Element) (part : List Step) → slice_get d.elements k ≡ Some e → slice_get parts k ≡ Some part
      → AreStepsOf ds d top k e part
  pub whole : steps ≡ joined parts

-- What is known of the rows of a network while its steps are made.
use Rattle.std.specs.Prelude.{◌≡◌, ◌↔◌, ◌⊎◌, ℕ, ◌+◌, ◌-◌, ◌<◌, ◌≤◌, List, [], ◌∷◌, ◌++◌, Option, Some, None, Contains, slice_get, slice_index, length}
use Rattle.drawings.specs.declared.place.Place.{Place}
use Rattle.drawings.specs.declared.drawn_box.DrawnBox.{DrawnBox}
use Rattle.drawings.specs.declared.drawn_box.DrawnPin.{DrawnPin}
use Rattle.drawings.specs.declared.drawn_box.Side.TheVariants.{Right}
use Rattle.network.specs.declared.element.Element.{Element}
use Rattle.network.specs.Links.{Diagram, Gives}
use Rattle.network.specs.Apart.{Has}
use Rattle.declared_names.specs.declared.declarations.Declaration.{Declaration}
use Rattle.scan_steps.specs.declared.step.Step.{Step}
use Rattle.power_flow.specs.Steps.Columns.{IsLed, AreStepsOf, joined}

-- the elements lie in this many rows, from the topmost on
abbrev pub AreRows : List Element → ℕ → ℕ → Type 0
AreRows elements top rows = (e : Element) (p : Place) → Contains elements e → Has e p
    → (top ≤ p.row) × (p.row < top + rows)

-- the pins lie in this many rows, from the topmost on
abbrev pub ArePinRows : List DrawnPin → ℕ → ℕ → Type 0
ArePinRows pins top rows = (pin : DrawnPin) → Contains pins pin → (top ≤ pin.row) × (pin.row < top + rows)

-- one of the first n elements gives state at p
pub record IsGiven (d : Diagram) (n : ℕ) (p : Place) : Type 0 where
  pub number : ℕ
  pub before : number < n
  pub element : Element
  pub at : slice_get d.elements number ≡ Some element
  pub gives : Gives element p

-- one of the first n pins gives state at p, on the right side of its box
pub record IsGivenByPin (b : DrawnBox) (n : ℕ) (p : Place) : Type 0 where
  pub number : ℕ
  pub before : number < n
  pub pin : DrawnPin
  pub at : slice_get b.pins number ≡ Some pin
  pub side : pin.side ≡ Right
  pub row : pin.row ≡ p.row
  pub column : p.column ≡ b.right

-- for each row from the topmost on, the column behind the last of these places in it, and 0 where there is none
pub record AreEnds (IsEnd : Place → Type 0) (top : ℕ) (ends : List ℕ) : Type 0 where
  pub above : (p : Place) → IsEnd p → p.column < slice_index ends (p.row - top)
  pub from : (r : ℕ) → 0 < slice_index ends r
      → (p : Place) × IsEnd p × (p.row ≡ top + r) × (slice_index ends r ≡ p.column + 1)

-- the ends of rows after the first n elements
abbrev pub AreEndsTo : Diagram → ℕ → ℕ → List ℕ → Type 0
AreEndsTo d top n ends = AreEnds (IsGiven d n) top ends

-- the ends of rows after the first n elements, and the first m pins of a box
abbrev pub AreEndsWithin : Diagram → ℕ → ℕ → DrawnBox → ℕ → List ℕ → Type 0
AreEndsWithin d top n b m ends = AreEnds (λ p. IsGiven d n p ⊎ IsGivenByPin b m p) top ends

-- the ends of rows tell whether an element leads to p
abbrev pub TellsLed : Diagram → ℕ → List ℕ → Place → Type 0
TellsLed d top ends p = IsLed d p ↔ ((0 < p.column) × (slice_index ends (p.row - top) ≡ p.column))

-- a step, if there is one
abbrev pub listed : Option Step → List Step
listed None = []
listed (Some s) = s ∷ []

-- the steps at the element with the number k were added
pub record ArePushed (ds : List Declaration) (d : Diagram) (top k : ℕ) (old new : List Step) : Type 0 where
  pub part : List Step
  pub are : (e : Element) → slice_get d.elements k ≡ Some e → AreStepsOf ds d top k e part
  pub new_is : new ≡ old ++ part

-- the steps are those of the first n elements
pub record AreStepsTo (ds : List Declaration) (d : Diagram) (top n : ℕ) (steps : List Step) : Type 0 where
  pub parts : List (List Step)
  pub long : length parts ≡ n
  pub each : (k : ℕ) (e : Element) (part : List Step) → slice_get d.elements k ≡ Some e → slice_get parts k ≡ Some part
      → AreStepsOf ds d top k e part
  pub whole : steps ≡ joined parts

-- What the names of a drawing with boxes are bound to.
use Rattle.std.specs.Prelude.{◌≡◌, ℕ, ◌-◌, ◌<◌, List, [], ◌∷◌, ◌++◌, Option, Some, None, All, Contains, MatchOption, slice_get}
use Rattle.std.specs.List.{AllZip, filter_map}
use Rattle.std.specs.Option.{option_and_then}
use Rattle.drawings.specs.declared.place.Place.{Place}
use Rattle.drawings.specs.declared.drawn_box.DrawnBox.{DrawnBox}
use Rattle.drawings.specs.declared.drawn_box.DrawnPin.{DrawnPin}
use Rattle.drawings.specs.declared.drawn_box.Side.{Side}
use Rattle.drawings.specs.declared.drawn_box.Side.TheVariants.{Left, Right}
use Rattle.network.specs.declared.element.Element.{Element}
use Rattle.network.specs.Links.{Diagram}
use Rattle.std_blocks.specs.declared.block_type.BlockType.{BlockType}
use Rattle.std_blocks.specs.declared.pin.Field.{Field}
use Rattle.std_blocks.specs.declared.pin.Field.TheVariants.{Bit, Int, Time}
use Rattle.std_blocks.specs.Pins.{pin_of, output}
use Rattle.declared_names.specs.declared.declarations.Declaration.{Declaration}
use Rattle.declared_names.specs.declared.declarations.Declared.TheVariants as declared
use Rattle.scan_steps.specs.declared.source.Source.{Source}
use Rattle.scan_steps.specs.declared.source.Source.TheVariants as source
use Rattle.scan_steps.specs.declared.bound_box.BoundBox.{BoundBox}
use Rattle.scan_steps.specs.declared.bound_box.BoundOutput.{BoundOutput}
use Rattle.declared_names.specs.Names.{place_of}
use Rattle.name_faults.specs.Steps.Named.{IsInRange, IsNamedBox}
use Rattle.power_flow.specs.Meaning.{IsDrawn, IsUndrawn}
use Rattle.power_flow.specs.Steps.NameSources.{name_source, pin_source}
pub use Rattle.power_flow.specs.Waiting.{box_of, boxes_of}
use Rattle.scan_steps.specs.Steps.BoxSteps.{bit_source}
use Rattle.power_flow.specs.Steps.BoxStores.{AreApartBoxes}

-- a block of this type is declared at the place
pub record IsBlockAt (ds : List Declaration) (place : ℕ) (block : BlockType) : Type 0 where
  pub entry : Declaration
  pub at : slice_get ds place ≡ Some entry
  pub is : entry.declared ≡ declared.Instance block

-- the place of a pin
abbrev pub left_place : DrawnBox → DrawnPin → Place
left_place b pin = record { row = pin.row; column = b.left }

abbrev pub right_place : DrawnBox → DrawnPin → Place
right_place b pin = record { row = pin.row; column = b.right }

-- a Boolean pin is read at its operand, or in its row
abbrev pub IsBitSource : List Declaration → ℕ → DrawnPin → Source → Type 0
IsBitSource ds top pin s = MatchOption pin.operand (s ≡ source.Power (pin.row - top)) (λ o. s ≡ name_source ds o.text)

-- the source of this Boolean input is that of each pin that is drawn as it
abbrev pub IsSourceOfBit : List Declaration → ℕ → DrawnBox → BlockType → ℕ → Source → Type 0
IsSourceOfBit ds top b block k s = (pin : DrawnPin) → IsDrawn b block (Bit k) pin → IsBitSource ds top pin s

-- the source of this INT or TIME input is that of each pin that is drawn as it
abbrev pub IsSourceOfValue : List Declaration → DrawnBox → BlockType → Field → Source → Type 0
IsSourceOfValue ds b block field s = (pin : DrawnPin) → IsDrawn b block field pin → s ≡ pin_source ds pin

-- the operand of a pin is in its range, if it has one
abbrev pub IsOperandInRange : DrawnPin → Type 0
IsOperandInRange pin = MatchOption pin.operand (Unit {0}) (λ o. IsInRange o.text)

-- the output pin shows this output in its row, and stores at its operand
pub record IsBoundOutput (ds : List Declaration) (top : ℕ) (block : BlockType)
    (pin : DrawnPin) (o : BoundOutput) : Type 0 where
  pub named : pin_of block pin.name ≡ Some (output o.field)
  pub row : o.row ≡ pin.row - top
  pub store : o.store ≡ option_and_then (λ w. place_of ds w.text) pin.operand

-- the output pin is bound, if it is named as an output of the block
abbrev pub IsBoundIfNamed : List Declaration → ℕ → BlockType → DrawnPin → BoundOutput → Type 0
IsBoundIfNamed ds top block pin o = (field : Field) → pin_of block pin.name ≡ Some (output field)
    → IsBoundOutput ds top block pin o

-- the pins of the right side, in their order
abbrev pub right_pin : DrawnPin → Side → Option DrawnPin
right_pin pin Left = None
right_pin pin Right = Some pin

abbrev pub right_pins : List DrawnPin → List DrawnPin
right_pins pins = filter_map (λ pin. right_pin pin pin.side) pins

-- an output pin, if it is of the right side
abbrev pub output_if : Side → BoundOutput → List BoundOutput
output_if Left o = []
output_if Right o = o ∷ []

-- the output pins of the box are bound, in their order
abbrev pub AreBoundOutputs : List Declaration → ℕ → BlockType → DrawnBox → List BoundOutput → Type 0
AreBoundOutputs ds top block b outputs = AllZip (IsBoundOutput ds top block) (right_pins b.pins) outputs

-- the box is bound: its instance, the source of each input, and its output pins
pub record IsBoundBox (ds : List Declaration) (top : ℕ) (b : DrawnBox) (e : BoundBox) : Type 0 where
  pub place : place_of ds b.instance ≡ Some e.instance
  pub declared : IsBlockAt ds e.instance e.block
  pub bits : (k : ℕ) (pin : DrawnPin) → k < 4 → IsDrawn b e.block (Bit k) pin → IsBitSource ds top pin (bit_source e k)
  pub no_bit : (k : ℕ) → k < 4 → IsUndrawn b e.block (Bit k) → bit_source e k ≡ source.Nothing
  pub int : (pin : DrawnPin) → IsDrawn b e.block Int pin → e.int ≡ pin_source ds pin
  pub no_int : IsUndrawn b e.block Int → e.int ≡ source.Nothing
  pub time : (pin : DrawnPin) → IsDrawn b e.block Time pin → e.time ≡ pin_source ds pin
  pub no_time : IsUndrawn b e.block Time → e.time ≡ source.Nothing
  pub outputs : AreBoundOutputs ds top e.block b e.outputs.items

-- a box further left comes before
abbrev pub AreByColumn : List DrawnBox → Type 0
AreByColumn boxes = (i j : ℕ) (a b : DrawnBox) → slice_get boxes i ≡ Some a → slice_get boxes j ≡ Some b
    → a.left < b.left → i < j

-- the boxes of a diagram are bound, by column, each with an instance of its own
pub record AreBoundBoxes (ds : List Declaration) (d : Diagram) (top : ℕ) (boxes : List BoundBox) : Type 0 where
  pub bound : AllZip (IsBoundBox ds top) (boxes_of d.elements) boxes
  pub by_column : AreByColumn (boxes_of d.elements)
  pub apart : AreApartBoxes boxes

-- the pins lie in these rows, counted from the topmost on
abbrev pub ArePinsIn : ℕ → ℕ → DrawnBox → Type 0
ArePinsIn top rows b = (pin : DrawnPin) → Contains b.pins pin → pin.row - top < rows

-- the outputs of the boxes lie in these rows
abbrev pub AreOutputsIn : ℕ → List BoundBox → Type 0
AreOutputsIn rows boxes = All (λ e. All (λ o. o.row < rows) e.outputs.items) boxes

-- the outputs of a box lie in the rows in which its pins do
abbrev pub ArePinRowsKept : ℕ → DrawnBox → List BoundOutput → Type 0
ArePinRowsKept top b outputs = (rows : ℕ) → ArePinsIn top rows b → All (λ o. o.row < rows) outputs

-- the outputs of boxes lie in the rows in which their pins do
abbrev pub AreRowsKept : ℕ → List DrawnBox → List BoundBox → Type 0
AreRowsKept top drawn boxes = (rows : ℕ) → All (ArePinsIn top rows) drawn → AreOutputsIn rows boxes

-- with some more boxes the outputs still lie in the rows in which the pins do
abbrev pub AreRowsKeptWith : ℕ → List DrawnBox → List BoundBox → List BoundBox → Type 0
AreRowsKeptWith top added old new = (rows : ℕ) → All (ArePinsIn top rows) added → AreOutputsIn rows old
    → AreOutputsIn rows new

-- the box of an element, if it is one
abbrev pub own_box : Element → List DrawnBox
own_box e = boxes_of (e ∷ [])

-- the boxes are bound, if their names are in order
abbrev pub AreBoundIfNamed : List Declaration → ℕ → List DrawnBox → List BoundBox → Type 0
AreBoundIfNamed ds top drawn boxes = All (IsNamedBox ds) drawn → AllZip (IsBoundBox ds top) drawn boxes

-- boxes that are bound are so with some more, if the names of these are in order
abbrev pub AreBoundWith : List Declaration → ℕ → List DrawnBox → List BoundBox → List BoundBox → Type 0
AreBoundWith ds top added old new = (before : List DrawnBox) → All (IsNamedBox ds) added
    → AllZip (IsBoundBox ds top) before old → AllZip (IsBoundBox ds top) (before ++ added) new

use Rattle.std.specs.Prelude.{◌≡◌, ℕ, ◌<◌, ◌⊎◌, ◌↔◌, List, [], ◌∷◌, ◌++◌, map, Bool, true, false, not, ◌&&◌, if◌then◌else◌, Option, Some, None, IsTrue, Contains, Any, slice_get, slice_set, length, MatchOption}
use Rattle.std.specs.List.{flat_map, enumerate_from}
use Rattle.std.specs.Option.{option_map_or, option_map, option_and_then}
use Rattle.drawings.specs.declared.place.Place.{Place}
use Rattle.drawings.specs.declared.drawn_box.DrawnBox.{DrawnBox}
use Rattle.drawings.specs.declared.drawn_box.DrawnPin.{DrawnPin}
use Rattle.drawings.specs.declared.drawn_box.Side.{Side}
use Rattle.drawings.specs.declared.drawn_box.Side.TheVariants.{Left, Right}
use Rattle.drawings.specs.declared.coil.CoilKind.{CoilKind}
use Rattle.drawings.specs.declared.coil.CoilKind.TheVariants as coil
use Rattle.network.specs.declared.element.Element.{Element}
use Rattle.network.specs.declared.element.Element.TheVariants.{Wire, Join, Upright, Contact, Coil, Box}
use Rattle.network.specs.Links.{Diagram}
use Rattle.std_blocks.specs.declared.value.Value.{Value}
use Rattle.std_blocks.specs.declared.value.Value.TheVariants.{Bool as BoolValue}
use Rattle.std_blocks.specs.declared.block_type.BlockType.{BlockType}
use Rattle.std_blocks.specs.declared.pins.PinsIn.{PinsIn}
use Rattle.std_blocks.specs.declared.pin.Field.{Field}
use Rattle.std_blocks.specs.declared.pin.Field.TheVariants.{Bit, Int, Time}
use Rattle.std_blocks.specs.Pins.{pin_of, input}
use Rattle.std_blocks.specs.Blocks.{bit, after, outputs_after}
use Rattle.declared_names.specs.declared.declarations.Declaration.{Declaration}
use Rattle.scan_steps.specs.declared.slot.Instance.{Instance}
use Rattle.scan_steps.specs.declared.slot.Slot.{Slot}
use Rattle.scan_steps.specs.declared.slot.Slot.TheVariants.{Variable, Block}
use Rattle.power_flow.specs.Power.{IsOn}
use Rattle.declared_names.specs.Names.{place_of}
use Rattle.scan_steps.specs.Values.{is_true, int_or_zero, time_or_zero}
use Rattle.scan_steps.specs.Conducting.{bit_at, contact_conducts, contact_memory}
use Rattle.power_flow.specs.Values.{value_at, value_of, text_value}
pub use Rattle.network.specs.Apart.{first_place}

-- what a network reads and leaves: the slots of all declared names, and a memory for each of its elements
pub record Moment : Type 0 where
  pub slots : List Slot
  pub memories : List Bool

abbrev pub moment : List Slot → List Bool → Moment
moment slots memories = record { slots = slots; memories = memories }

-- the element with the number k conducts: a coil always does
abbrev pub element_conducts : List Declaration → Moment → ℕ → Element → Bool
element_conducts ds m k (Wire at) = true
element_conducts ds m k (Join at) = true
element_conducts ds m k (Upright at) = true
element_conducts ds m k (Contact c) =
    contact_conducts c.kind (is_true (value_of ds m.slots c.name)) (bit_at m.memories k)
element_conducts ds m k (Coil c) = true
element_conducts ds m k (Box b) = true

unfoldable pub conducts : List Declaration → Diagram → Moment → ℕ → Bool
conducts ds d m k = option_map_or (element_conducts ds m k) (slice_get d.elements k) true

-- p is at an output pin of this element that is ON
abbrev pub IsOutputOn : List Declaration → List Slot → Element → Place → Type 0
IsOutputOn ds slots (Wire at) p = ⊥
IsOutputOn ds slots (Join at) p = ⊥
IsOutputOn ds slots (Upright at) p = ⊥
IsOutputOn ds slots (Contact c) p = ⊥
IsOutputOn ds slots (Coil c) p = ⊥
IsOutputOn ds slots (Box b) p =
    (p.column ≡ b.right)
    × Any
    (λ pin. (pin.side ≡ Right) × (pin.row ≡ p.row) × IsTrue (is_true (value_at ds slots b.instance pin.name))) b.pins

-- a walk begins on the left rail, or at an output pin that is ON
abbrev pub IsSource : List Declaration → Diagram → List Slot → Place → Type 0
IsSource ds d slots p = Contains d.rails p ⊎ Any (λ e. IsOutputOn ds slots e p) d.elements

-- the power at a place, in a network that reads old, where blocks have the outputs in between
abbrev pub HasPower : List Declaration → Diagram → Moment → List Slot → Place → Type 0
HasPower ds d old between p = IsOn d (conducts ds d old) (IsSource ds d between) p

-- this pin of the box is drawn as its input of that field
pub record IsDrawn (b : DrawnBox) (block : BlockType) (field : Field) (pin : DrawnPin) : Type 0 where
  pub drawn : Contains b.pins pin
  pub side : pin.side ≡ Left
  pub named : pin_of block pin.name ≡ Some (input field)

-- no pin of the box is drawn as its input of that field
abbrev pub IsUndrawn : DrawnBox → BlockType → Field → Type 0
IsUndrawn b block field = (pin : DrawnPin) → IsDrawn b block field pin → ⊥

-- a Boolean input is the value of its operand, or the power at its place
abbrev pub IsInputBit : List Declaration → Diagram → Moment → List Slot → DrawnBox → DrawnPin → Bool → Type 0
IsInputBit ds d old between b pin v =
    MatchOption pin.operand
    (IsTrue v ↔ HasPower ds d old between (record { row = pin.row; column = b.left }))
    (λ o. v ≡ is_true (value_of ds old.slots o.text))

-- the value of a pin's operand, none where it has none
abbrev pub operand_value : List Declaration → Moment → DrawnPin → Option Value
operand_value ds old pin = option_and_then (λ o. text_value ds old.slots o.text) pin.operand

-- the inputs of a box: each drawn pin has its state or value, and an undrawn one is OFF or 0
pub record AreInputs (ds : List Declaration) (d : Diagram) (old : Moment) (between : List Slot)
    (b : DrawnBox) (block : BlockType) (pins : PinsIn) : Type 0 where
  pub four : length pins.bits ≡ 4
  pub bits : (k : ℕ) (pin : DrawnPin) → k < 4 → IsDrawn b block (Bit k) pin
      → IsInputBit ds d old between b pin (bit pins k)
  pub no_bit : (k : ℕ) → k < 4 → IsUndrawn b block (Bit k) → bit pins k ≡ false
  pub int : (pin : DrawnPin) → IsDrawn b block Int pin → pins.int ≡ int_or_zero (operand_value ds old pin)
  pub no_int : IsUndrawn b block Int → pins.int ≡ int_or_zero None
  pub time : (pin : DrawnPin) → IsDrawn b block Time pin → pins.time ≡ time_or_zero (operand_value ds old pin)
  pub no_time : IsUndrawn b block Time → pins.time ≡ time_or_zero None

-- a block once it has made its step
abbrev pub block_after : Instance → PinsIn → ℕ → Instance
block_after i pins dt = record { state = after i.state pins dt; outputs = outputs_after i.state pins dt }

-- no block of the network stands at the place k
abbrev pub HasNoBlockAt : List Declaration → Diagram → List Slot → ℕ → Type 0
HasNoBlockAt ds d slots k = (b : DrawnBox) (i : Instance) → Contains d.elements (Box b)
    → place_of ds b.instance ≡ Some k → slice_get slots k ≡ Some (Block i) → ⊥

-- the slots once the blocks of the network have made their step: each from its inputs, by the block table
pub record BlocksStep (ds : List Declaration) (d : Diagram) (dt : ℕ) (old : Moment) (between : List Slot) : Type 0 where
  pub same_length : length between ≡ length old.slots
  pub stepped : (b : DrawnBox) (k : ℕ) (i : Instance) → Contains d.elements (Box b) → place_of ds b.instance ≡ Some k
      → slice_get old.slots k ≡ Some (Block i)
      → (pins : PinsIn) × AreInputs ds d old between b i.state.block pins
      × (slice_get between k ≡ Some (Block (block_after i pins dt)))
  pub others : (k : ℕ) → HasNoBlockAt ds d old.slots k → slice_get between k ≡ slice_get old.slots k

-- what a coil stores, by its left link and its memory
abbrev pub coil_value : CoilKind → Bool → Bool → Option Bool
coil_value coil.Plain link memory = Some link
coil_value coil.Negated link memory = Some (not link)
coil_value coil.Set link memory = if link then Some true else None
coil_value coil.Reset link memory = if link then Some false else None
coil_value coil.Rise link memory = Some (link && not memory)
coil_value coil.Fall link memory = Some (not link && memory)

-- a store of a value at the place of a name
abbrev pub store : Option ℕ → Option Value → List (ℕ × Value)
store None v = []
store (Some k) None = []
store (Some k) (Some v) = (k, v) ∷ []

-- an output pin stores its value at its operand
abbrev pub side_stores : List Declaration → List Slot → DrawnBox → DrawnPin → Side → List (ℕ × Value)
side_stores ds between b pin Left = []
side_stores ds between b pin Right =
    option_map_or (λ o. store (place_of ds o.text) (value_at ds between b.instance pin.name)) pin.operand []

-- the stores of the block results of one element
abbrev pub result_stores : List Declaration → List Slot → Element → List (ℕ × Value)
result_stores ds between (Wire at) = []
result_stores ds between (Join at) = []
result_stores ds between (Upright at) = []
result_stores ds between (Contact c) = []
result_stores ds between (Coil c) = []
result_stores ds between (Box b) = flat_map (λ pin. side_stores ds between b pin pin.side) b.pins

-- the store of the element with the number k, if it is a coil
abbrev pub coil_stores : List Declaration → Moment → List Bool → ℕ → Element → List (ℕ × Value)
coil_stores ds old links k (Wire at) = []
coil_stores ds old links k (Join at) = []
coil_stores ds old links k (Upright at) = []
coil_stores ds old links k (Contact c) = []
coil_stores ds old links k (Coil c) =
    store (place_of ds c.name) (option_map BoolValue (coil_value c.kind (bit_at links k) (bit_at old.memories k)))
coil_stores ds old links k (Box b) = []

-- all stores of a network in their order: block results, then coils
unfoldable pub stores : List Declaration → Diagram → Moment → List Slot → List Bool → List (ℕ × Value)
stores ds d old between links =
    flat_map (result_stores ds between) d.elements
    ++ flat_map (λ e. coil_stores ds old links e.0 e.1) (enumerate_from 0 d.elements)

-- the slots after stores, made one after the other
abbrev pub stored : List Slot → List (ℕ × Value) → List Slot
stored slots [] = slots
stored slots (s ∷ rest) = stored (slice_set slots s.0 (Variable s.1)) rest

-- the memory of an edge coil becomes its left link
abbrev pub coil_memory : CoilKind → Bool → Bool → Bool
coil_memory coil.Plain link memory = memory
coil_memory coil.Negated link memory = memory
coil_memory coil.Set link memory = memory
coil_memory coil.Reset link memory = memory
coil_memory coil.Rise link memory = link
coil_memory coil.Fall link memory = link

abbrev pub next_memory : List Declaration → Moment → List Bool → ℕ → Element → Bool
next_memory ds old links k (Wire at) = bit_at old.memories k
next_memory ds old links k (Join at) = bit_at old.memories k
next_memory ds old links k (Upright at) = bit_at old.memories k
next_memory ds old links k (Contact c) =
    contact_memory c.kind (is_true (value_of ds old.slots c.name)) (bit_at old.memories k)
next_memory ds old links k (Coil c) = coil_memory c.kind (bit_at links k) (bit_at old.memories k)
next_memory ds old links k (Box b) = bit_at old.memories k

-- the power at the first place of each element
pub record AreLinks (ds : List Declaration) (d : Diagram) (old : Moment) (between : List Slot)
    (links : List Bool) : Type 0 where
  pub same_length : length links ≡ length d.elements
  pub power : (k : ℕ) (e : Element) → slice_get d.elements k ≡ Some e
      → IsTrue (bit_at links k) ↔ HasPower ds d old between (first_place e)

-- The meaning of a network. All is read at its beginning; the blocks make their step; then block results and coils are
-- stored.
pub record NetworkMeaning (ds : List Declaration) (d : Diagram) (dt : ℕ) (old new : Moment) : Type 0 where
  pub between : List Slot
  pub blocks : BlocksStep ds d dt old between
  pub links : List Bool
  pub power : AreLinks ds d old between links
  pub memories : new.memories ≡ map (λ e. next_memory ds old links e.0 e.1) (enumerate_from 0 d.elements)
  pub slots : new.slots ≡ stored between (stores ds d old between links)

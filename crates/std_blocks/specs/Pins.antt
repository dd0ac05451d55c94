use Rattle.std.specs.Prelude.{ℕ, ◌<◌, List, [], ◌∷◌, true, false, Option, Some, None, codes, if◌then◌else◌, slice_index_or}
use Rattle.std.specs.Str.{str_eq_ignore_ascii_case}
use Rattle.std_blocks.specs.declared.block_type.BlockType.{BlockType}
use Rattle.std_blocks.specs.declared.block_type.BlockType.TheVariants.{SR, RS, CTU, CTD, CTUD, TP, TON, TOF}
use Rattle.std_blocks.specs.declared.pins.PinsOut.{PinsOut}
use Rattle.std_blocks.specs.declared.value.Value.{Value}
use Rattle.std_blocks.specs.declared.value.Value.TheVariants.{Bool as BoolValue, Int as IntValue, Time as TimeValue}
use Rattle.std_blocks.specs.declared.pin.Field.{Field}
use Rattle.std_blocks.specs.declared.pin.Field.TheVariants.{Bit, Int, Time}
use Rattle.std_blocks.specs.declared.pin.Pin.{Pin}

-- a pin on the left side of a box
abbrev pub input : Field → Pin
input field = record { left = true; field = field }

-- a pin on the right side of a box
abbrev pub output : Field → Pin
output field = record { left = false; field = field }

-- A latch has two inputs, of which one sets and one resets, and an output.
abbrev pub latch_pins : List ℕ → List ℕ → List (List ℕ × Pin)
latch_pins set reset = (set, input (Bit 0)) ∷ (reset, input (Bit 1)) ∷ (codes "Q1", output (Bit 0)) ∷ []

-- A counter in one direction has an input that it counts, one that sets its count, a preset, an output and its count.
abbrev pub counter_pins : List ℕ → List ℕ → List (List ℕ × Pin)
counter_pins count reset =
    (count, input (Bit 0)) ∷ (reset, input (Bit 1)) ∷ (codes "PV", input Int)
    ∷ (codes "Q", output (Bit 0)) ∷ (codes "CV", output Int) ∷ []

-- A counter in both directions has two inputs that it counts, two that set its count, a preset,
-- an output for each direction and its count.
abbrev pub up_down_pins : List (List ℕ × Pin)
up_down_pins =
    (codes "CU", input (Bit 0)) ∷ (codes "CD", input (Bit 1)) ∷ (codes "R", input (Bit 2)) ∷ (codes "LD", input (Bit 3))
    ∷ (codes "PV", input Int)
    ∷ (codes "QU", output (Bit 0)) ∷ (codes "QD", output (Bit 1)) ∷ (codes "CV", output Int) ∷ []

-- A timer has an input, a preset, an output and its elapsed time.
abbrev pub timer_pins : List (List ℕ × Pin)
timer_pins =
    (codes "IN", input (Bit 0)) ∷ (codes "PT", input Time)
    ∷ (codes "Q", output (Bit 0)) ∷ (codes "ET", output Time) ∷ []

-- The pins of each type with their names. Bits are numbered in the order of their side.
abbrev pub pins_of : BlockType → List (List ℕ × Pin)
pins_of SR = latch_pins (codes "S1") (codes "R")
pins_of RS = latch_pins (codes "S") (codes "R1")
pins_of CTU = counter_pins (codes "CU") (codes "R")
pins_of CTD = counter_pins (codes "CD") (codes "LD")
pins_of CTUD = up_down_pins
pins_of TP = timer_pins
pins_of TON = timer_pins
pins_of TOF = timer_pins

-- the pin of the first entry with this name, without regard to case
abbrev pub named : List (List ℕ × Pin) → List ℕ → Option Pin
named [] name = None
named (e ∷ es) name = if str_eq_ignore_ascii_case name e.0 then Some e.1 else named es name

-- the pin of a type with this name, without regard to case
unfoldable pub pin_of : BlockType → List ℕ → Option Pin
pin_of block name = named (pins_of block) name

-- a bit is at one of so many places
abbrev pub IsBitBelow : ℕ → Field → Type 0
IsBitBelow places (Bit k) = k < places
IsBitBelow places Int = Unit {0}
IsBitBelow places Time = Unit {0}

-- an input bit is at one of four places, an output bit at one of two
abbrev pub IsPlaced : Pin → Type 0
IsPlaced pin = IsBitBelow (if pin.left then 4 else 2) pin.field

-- what an output pin shows
abbrev pub field_value : PinsOut → Field → Value
field_value out (Bit k) = BoolValue (slice_index_or out.bits k false)
field_value out Int = IntValue out.int
field_value out Time = TimeValue out.time

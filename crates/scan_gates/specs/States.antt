-- State bits: what stands at names is just what the values of its signals say.
use Rattle.std.specs.Prelude.{◌≡◌, ℕ, ◌++◌, List, [], ◌∷◌, Bool}
use Rattle.std.specs.List.{AllZip}
use Rattle.gates.specs.declared.signal.Signal.{Signal}
use Rattle.gates.specs.Signals.{bit_of}
use Rattle.gate_words.specs.Words.{number_of}
use Rattle.std_blocks.specs.declared.value.Value.TheVariants as value
use Rattle.declared_names.specs.declared.declarations.Kind.TheVariants as kind
use Rattle.block_gates.specs.Blocks.{type_of}
use Rattle.block_gates.specs.Signals.{instance_signals, int_of, outputs_of, signals_of, state_of}
use Rattle.scan_steps.specs.declared.slot.Slot.{Slot}
use Rattle.scan_steps.specs.declared.slot.Slot.TheVariants as slot
use Rattle.scan_gates.specs.declared.encoded.EncodedValue.TheVariants as encoded
use Rattle.scan_gates.specs.declared.encoded.EncodedSlot.{EncodedSlot}
use Rattle.scan_gates.specs.declared.encoded.EncodedSlot.TheVariants.{Variable, Block}
use Rattle.scan_gates.specs.declared.shape.Shape.{Shape}
use Rattle.scan_gates.specs.declared.shape.Shape.TheVariants as shape

-- what a slot is, but for its signals
abbrev pub shape_of : EncodedSlot → Shape
shape_of (Variable (encoded.Bool s)) = shape.Variable kind.Bool
shape_of (Variable (encoded.Int word)) = shape.Variable kind.Int
shape_of (Variable (encoded.Time word)) = shape.Variable kind.Time
shape_of (Block i) = shape.Block (type_of i)

-- its signals
abbrev pub slot_signals : EncodedSlot → List Signal
slot_signals (Variable (encoded.Bool s)) = s ∷ []
slot_signals (Variable (encoded.Int word)) = word.bits
slot_signals (Variable (encoded.Time word)) = word.bits
slot_signals (Block i) = instance_signals i

-- how many a slot of a shape has
abbrev pub width_of : Shape → ℕ
width_of (shape.Variable kind.Bool) = 1
width_of (shape.Variable kind.Int) = 16
width_of (shape.Variable kind.Time) = 32
width_of (shape.Block b) = signals_of b

-- what stands at a name, by the values of the signals
abbrev pub slot_of : Shape → List Bool → Slot
slot_of (shape.Variable kind.Bool) bits = slot.Variable (value.Bool (bit_of bits 0))
slot_of (shape.Variable kind.Int) bits = slot.Variable (value.Int (int_of bits))
slot_of (shape.Variable kind.Time) bits = slot.Variable (value.Time (number_of bits))
slot_of (shape.Block b) bits = slot.Block (record { state = state_of b bits; outputs = outputs_of b bits })

-- the signals of all names in their order, and behind them the memories
abbrev pub state_signals : List EncodedSlot → List Signal → List Signal
state_signals [] memories = memories
state_signals (s ∷ slots) memories = slot_signals s ++ state_signals slots memories

-- both are variables of one kind, or blocks of one type
abbrev pub IsLike : EncodedSlot → EncodedSlot → Type 0
IsLike a b = shape_of a ≡ shape_of b

-- so it is at each name
abbrev pub AreLike : List EncodedSlot → List EncodedSlot → Type 0
AreLike a b = AllZip IsLike a b

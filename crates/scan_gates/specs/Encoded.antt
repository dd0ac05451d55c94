-- What stands where signals do, once each variable has a value.
use Rattle.std.specs.Prelude.{ℕ, List, Bool, map}
use Rattle.gates.specs.declared.signal.Signal.{Signal}
use Rattle.gates.specs.Signals.{signal_value}
use Rattle.gate_words.specs.Values.{int_at, time_at}
use Rattle.std_blocks.specs.declared.value.Value.{Value}
use Rattle.std_blocks.specs.declared.value.Value.TheVariants as value
use Rattle.block_gates.specs.declared.instance.EncodedInstance.{EncodedInstance}
use Rattle.block_gates.specs.Blocks.{outputs_at, state_at}
use Rattle.scan_steps.specs.declared.slot.Instance.{Instance}
use Rattle.scan_steps.specs.declared.slot.Slot.{Slot}
use Rattle.scan_steps.specs.declared.slot.Slot.TheVariants as slot
use Rattle.scan_steps.specs.Steps.Passing.{Pass, pass_of}
use Rattle.scan_gates.specs.declared.encoded.EncodedValue.{EncodedValue}
use Rattle.scan_gates.specs.declared.encoded.EncodedValue.TheVariants as encoded
use Rattle.scan_gates.specs.declared.encoded.EncodedSlot.{EncodedSlot}
use Rattle.scan_gates.specs.declared.encoded.EncodedSlot.TheVariants.{Variable, Block}

-- the values of signals
abbrev pub bits_at : (ℕ → Bool) → List Signal → List Bool
bits_at v signals = map (signal_value v) signals

-- a value
abbrev pub value_at : (ℕ → Bool) → EncodedValue → Value
value_at v (encoded.Bool s) = value.Bool (signal_value v s)
value_at v (encoded.Int word) = value.Int (int_at v word)
value_at v (encoded.Time word) = value.Time (time_at v word)

-- a block with its stored outputs
abbrev pub instance_at : (ℕ → Bool) → EncodedInstance → Instance
instance_at v i = record { state = state_at v i; outputs = outputs_at v i }

abbrev pub instances_at : (ℕ → Bool) → List EncodedInstance → List Instance
instances_at v instances = map (instance_at v) instances

-- what stands at a name
abbrev pub slot_at : (ℕ → Bool) → EncodedSlot → Slot
slot_at v (Variable x) = slot.Variable (value_at v x)
slot_at v (Block i) = slot.Block (instance_at v i)

abbrev pub slots_at : (ℕ → Bool) → List EncodedSlot → List Slot
slots_at v slots = map (slot_at v) slots

-- what a scan works on: the values of the rows' signals, and so on
abbrev pub pass_at : (ℕ → Bool) → List Signal → List Signal → List Signal → List EncodedInstance → Pass
pass_at v rows memories links results =
    pass_of (bits_at v rows) (bits_at v memories) (bits_at v links) (instances_at v results)

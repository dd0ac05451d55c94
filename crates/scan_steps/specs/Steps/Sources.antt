use Rattle.std.specs.Prelude.{List, Bool, false, Option, Some, None, slice_get}
use Rattle.std.specs.Option.{option_and_then}
use Rattle.std_blocks.specs.declared.value.Value.{Value}
use Rattle.std_blocks.specs.declared.pin.Field.{Field}
use Rattle.std_blocks.specs.Pins.{field_value}
use Rattle.scan_steps.specs.declared.slot.Slot.{Slot}
use Rattle.scan_steps.specs.declared.slot.Slot.TheVariants.{Variable, Block}
use Rattle.scan_steps.specs.declared.source.Source.{Source}
use Rattle.scan_steps.specs.declared.source.Source.TheVariants as source
use Rattle.scan_steps.specs.Conducting.{bit_at}
use Rattle.scan_steps.specs.Values.{is_true}
use Rattle.scan_steps.specs.Slots.{variable_at}

-- an output of the block in a slot
abbrev pub slot_output : Field → Slot → Option Value
slot_output field (Variable v) = None
slot_output field (Block i) = Some (field_value i.outputs field)

-- the value that slots have at a source; none where the state of a row is read
abbrev pub source_value : List Slot → Source → Option Value
source_value slots source.Nothing = None
source_value slots (source.Power k) = None
source_value slots (source.Variable k) = variable_at slots k
source_value slots (source.Output k field) = option_and_then (slot_output field) (slice_get slots k)
source_value slots (source.Literal v) = Some v

-- whether a source is ON: a row by its state
abbrev pub source_bit : List Slot → List Bool → Source → Bool
source_bit slots bits source.Nothing = false
source_bit slots bits (source.Power k) = bit_at bits k
source_bit slots bits (source.Variable k) = is_true (source_value slots (source.Variable k))
source_bit slots bits (source.Output k field) = is_true (source_value slots (source.Output k field))
source_bit slots bits (source.Literal v) = is_true (Some v)

use Rattle.std.specs.Prelude.{◌≡◌, ℕ, List, [], ◌∷◌, Bool, true, false, pos, Option, Some, None, Any, slice_get, slice_index_or}
use Rattle.std_blocks.specs.declared.block_type.BlockType.{BlockType}
use Rattle.std_blocks.specs.declared.block_type.BlockType.TheVariants.{SR, RS, CTU, CTD, CTUD, TP, TON, TOF}
use Rattle.std_blocks.specs.declared.block_state.BlockState.{BlockState}
use Rattle.std_blocks.specs.declared.pins.PinsIn.{PinsIn}
use Rattle.std_blocks.specs.declared.pins.PinsOut.{PinsOut}
use Rattle.std_blocks.specs.Blocks.{initial, bit, after, outputs_after}
use Rattle.std_blocks.specs.Pins.{field_value}
use Rattle.scan_steps.specs.declared.slot.Instance.{Instance}
use Rattle.scan_steps.specs.declared.slot.Slot.{Slot}
use Rattle.scan_steps.specs.declared.slot.Slot.TheVariants.{Variable, Block}
use Rattle.scan_steps.specs.declared.source.Source.{Source}
use Rattle.scan_steps.specs.declared.source.Source.TheVariants as source
use Rattle.scan_steps.specs.declared.bound_box.BoundBox.{BoundBox}
use Rattle.scan_steps.specs.declared.bound_box.BoundOutput.{BoundOutput}
use Rattle.scan_steps.specs.Values.{is_true, int_or_zero, time_or_zero}
use Rattle.scan_steps.specs.Steps.Sources.{source_value, source_bit}

-- the source of a Boolean input
abbrev pub bit_source : BoundBox → ℕ → Source
bit_source e k = slice_index_or e.bits k source.Nothing

-- the inputs of a box, by the slots and the states of the rows
unfoldable pub box_inputs : BoundBox → List Slot → List Bool → PinsIn
box_inputs e slots bits = record {
  bits = source_bit slots bits (bit_source e 0) ∷ source_bit slots bits (bit_source e 1)
      ∷ source_bit slots bits (bit_source e 2) ∷ source_bit slots bits (bit_source e 3) ∷ [];
  int = int_or_zero (source_value slots e.int);
  time = time_or_zero (source_value slots e.time);
}

-- the inputs that a block of this type reads, and no others
abbrev pub read_by : BlockType → PinsIn → PinsIn
read_by SR pins = record { bits = bit pins 0 ∷ bit pins 1 ∷ false ∷ false ∷ []; int = pos 0; time = 0 }
read_by RS pins = record { bits = bit pins 0 ∷ bit pins 1 ∷ false ∷ false ∷ []; int = pos 0; time = 0 }
read_by CTU pins = record { bits = bit pins 0 ∷ bit pins 1 ∷ false ∷ false ∷ []; int = pins.int; time = 0 }
read_by CTD pins = record { bits = bit pins 0 ∷ bit pins 1 ∷ false ∷ false ∷ []; int = pins.int; time = 0 }
read_by CTUD pins = record { bits = bit pins 0 ∷ bit pins 1 ∷ bit pins 2 ∷ bit pins 3 ∷ []; int = pins.int; time = 0 }
read_by TP pins = record { bits = bit pins 0 ∷ false ∷ false ∷ false ∷ []; int = pos 0; time = pins.time }
read_by TON pins = record { bits = bit pins 0 ∷ false ∷ false ∷ false ∷ []; int = pos 0; time = pins.time }
read_by TOF pins = record { bits = bit pins 0 ∷ false ∷ false ∷ false ∷ []; int = pos 0; time = pins.time }

-- the state of the block in a slot, or a new one of this type
abbrev pub state_in : BlockType → Option Slot → BlockState
state_in block None = initial block
state_in block (Some (Variable v)) = initial block
state_in block (Some (Block i)) = i.state

-- what a step of a block leaves
abbrev pub made_by : BlockState → PinsIn → ℕ → Instance
made_by s pins dt = record { state = after s pins dt; outputs = outputs_after s pins dt }

-- what the step of a box leaves
unfoldable pub box_result : BoundBox → List Slot → ℕ → List Bool → Instance
box_result e slots dt bits =
    let s = state_in e.block (slice_get slots e.instance) in
    let pins = box_inputs e slots bits in
    record { state = after s pins dt; outputs = outputs_after s pins dt }

-- an output pin that is ON is in this row
abbrev pub IsMarked : List BoundOutput → PinsOut → ℕ → Type 0
IsMarked outputs values r = Any (λ o. (o.row ≡ r) × (is_true (Some (field_value values o.field)) ≡ true)) outputs

-- an output pin is in this row
abbrev pub HasOutput : List BoundOutput → ℕ → Type 0
HasOutput outputs r = Any (λ o. o.row ≡ r) outputs

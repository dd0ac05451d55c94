-- What is left where a value or a block is stored at a place: only one of the kind that stands there is.
use Rattle.std.specs.Prelude.{ℕ, List, Option, Some, None, slice_get, slice_set, slice_index_or}
use Rattle.std.specs.Option.{option_and_then}
use Rattle.std_blocks.specs.declared.value.Value.{Value}
use Rattle.std_blocks.specs.declared.value.Value.TheVariants.{Bool, Int, Time}
use Rattle.scan_steps.specs.declared.slot.Instance.{Instance}
use Rattle.scan_steps.specs.declared.slot.Slot.{Slot}
use Rattle.scan_steps.specs.declared.slot.Slot.TheVariants.{Variable, Block}

-- the first value, or the second if it is of the same kind
abbrev pub of_same_kind : Value → Value → Value
of_same_kind (Bool a) (Bool b) = Bool b
of_same_kind (Bool a) (Int b) = Bool a
of_same_kind (Bool a) (Time b) = Bool a
of_same_kind (Int a) (Bool b) = Int a
of_same_kind (Int a) (Int b) = Int b
of_same_kind (Int a) (Time b) = Int a
of_same_kind (Time a) (Bool b) = Time a
of_same_kind (Time a) (Int b) = Time a
of_same_kind (Time a) (Time b) = Time b

-- what stands where a value is stored
abbrev pub with_value : Slot → Value → Slot
with_value (Variable had) v = Variable (of_same_kind had v)
with_value (Block i) v = Block i

-- the slots once a value is stored at a place
abbrev pub value_put : List Slot → ℕ → Value → List Slot
value_put slots place v = slice_set slots place (with_value (slice_index_or slots place (Variable v)) v)

-- what stands where a block is put back
abbrev pub with_block : Slot → Instance → Slot
with_block (Variable v) i = Variable v
with_block (Block had) i = Block i

-- the slots once a block is put back at a place
abbrev pub block_put : List Slot → ℕ → Instance → List Slot
block_put slots place i = slice_set slots place (with_block (slice_index_or slots place (Block i)) i)

-- the block of a slot, if one stands there
abbrev pub block_of : Slot → Option Instance
block_of (Variable v) = None
block_of (Block i) = Some i

-- the block at a place
abbrev pub block_at : List Slot → ℕ → Option Instance
block_at slots place = option_and_then block_of (slice_get slots place)

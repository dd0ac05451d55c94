-- What the boxes of a network store.
use Rattle.std.specs.Prelude.{◌≡◌, ℕ, List, [], ◌∷◌, ◌++◌, Option, Some, None, All, ◌≢◌, slice_get, slice_set}
use Rattle.std.specs.List.{flat_map}
use Rattle.std_blocks.specs.declared.value.Value.{Value}
use Rattle.std_blocks.specs.declared.pins.PinsOut.{PinsOut}
use Rattle.std_blocks.specs.Pins.{field_value}
use Rattle.scan_steps.specs.declared.slot.Instance.{Instance}
use Rattle.scan_steps.specs.declared.slot.Slot.{Slot}
use Rattle.scan_steps.specs.declared.slot.Slot.TheVariants.{Block}
use Rattle.scan_steps.specs.declared.bound_box.BoundBox.{BoundBox}
use Rattle.scan_steps.specs.declared.bound_box.BoundOutput.{BoundOutput}
use Rattle.scan_steps.specs.Steps.Storing.{value_put, block_put}

-- no two boxes have one instance
abbrev pub AreApartBoxes : List BoundBox → Type 0
AreApartBoxes boxes = (i j : ℕ) (e f : BoundBox) → slice_get boxes i ≡ Some e → slice_get boxes j ≡ Some f
    → e.instance ≡ f.instance → i ≡ j

-- an output pin stores its value, if it has an operand
abbrev pub pin_store : PinsOut → BoundOutput → Option ℕ → List (ℕ × Value)
pin_store values o None = []
pin_store values o (Some k) = (k, field_value values o.field) ∷ []

abbrev pub pin_stores : PinsOut → List BoundOutput → List (ℕ × Value)
pin_stores values outputs = flat_map (λ o. pin_store values o o.store) outputs

-- the stores of the block results, box after box
abbrev pub output_stores : List BoundBox → List Instance → List (ℕ × Value)
output_stores [] results = []
output_stores (e ∷ boxes) [] = []
output_stores (e ∷ boxes) (i ∷ results) = pin_stores i.outputs e.outputs.items ++ output_stores boxes results

-- the slots with the blocks of the boxes put back
abbrev pub with_blocks : List BoundBox → List Instance → List Slot → List Slot
with_blocks [] results slots = slots
with_blocks (e ∷ boxes) [] slots = slots
with_blocks (e ∷ boxes) (i ∷ results) slots = with_blocks boxes results (slice_set slots e.instance (Block i))

-- the slots after stores, made one after the other; only values of the kinds that stand there are stored
abbrev pub kinds_stored : List Slot → List (ℕ × Value) → List Slot
kinds_stored slots [] = slots
kinds_stored slots (s ∷ rest) = kinds_stored (value_put slots s.0 s.1) rest

-- the slots once each block is put back and its outputs are stored, box after box
abbrev pub boxes_stored : List BoundBox → List Instance → List Slot → List Slot
boxes_stored [] results slots = slots
boxes_stored (e ∷ boxes) [] slots = slots
boxes_stored (e ∷ boxes) (i ∷ results) slots =
    boxes_stored boxes results (kinds_stored (block_put slots e.instance i) (pin_stores i.outputs e.outputs.items))

-- no box stands at the place
abbrev pub HasNoBox : List BoundBox → ℕ → Type 0
HasNoBox boxes k = All (λ e. e.instance ≢ k) boxes

-- no output is stored where a box stands
abbrev pub AreBlocksKept : List BoundBox → Type 0
AreBlocksKept boxes = All (λ e. All (λ o. (k : ℕ) → o.store ≡ Some k → HasNoBox boxes k) e.outputs.items) boxes

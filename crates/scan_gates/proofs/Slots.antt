-- What stands at places, and its signals.
use Rattle.std.proofs.Common.{◌≡◌, ℕ, List, Bool, Option, Some, set, slice_get, sym, ap, ◌∙◌}
use Rattle.std.specs.Option.{option_map}
use Rattle.std.proofs.lemmas.List.{map-set}
use Rattle.std.proofs.lemmas.Option.{slice_get-map, get_or_from_slice_get}
use Rattle.scan_steps.specs.declared.slot.Slot.TheVariants as slot
use Rattle.scan_steps.specs.Steps.Storing.{of_same_kind, with_value, with_block, value_put, block_put}
use Rattle.scan_gates.specs.declared.encoded.EncodedValue.{EncodedValue}
use Rattle.block_gates.specs.declared.instance.EncodedInstance.{EncodedInstance}
use Rattle.scan_gates.specs.declared.encoded.EncodedSlot.{EncodedSlot}
use Rattle.scan_gates.specs.declared.encoded.EncodedSlot.TheVariants.{Variable, Block}
use Rattle.scan_gates.specs.Encoded.{value_at, instance_at, slot_at, slots_at}

-- what stands at a place is that of its signals
pub slot_there : (v : ℕ → Bool) (slots : List EncodedSlot) (k : ℕ) (s : Option EncodedSlot) → slice_get slots k ≡ s → slice_get (slots_at v slots) k ≡ option_map (slot_at v) s
slot_there v slots k s at = slice_get-map (slot_at v) slots k ∙ ap (option_map (slot_at v)) at

-- a value that is stored where a variable stands
pub value_put_there : (v : ℕ → Bool) (slots : List EncodedSlot) (k : ℕ) (had kept x : EncodedValue) → slice_get slots k ≡ Some (Variable had)
    → value_at v kept ≡ of_same_kind (value_at v had) (value_at v x) → slots_at v (set slots k (Variable kept)) ≡ value_put (slots_at v slots) k (value_at v x)
value_put_there v slots k had kept x at is =
    let there = get_or_from_slice_get (slots_at v slots) k (slot_at v (Variable had)) (slot.Variable (value_at v x)) (slot_there v slots k (Some (Variable had)) at) in
    map-set (slot_at v) slots k (Variable kept) ∙ ap (λ y. set (slots_at v slots) k (slot.Variable y)) is
    ∙ ap (λ s. set (slots_at v slots) k (with_value s (value_at v x))) (sym there)

-- a block that is put back where one stands
pub block_put_there : (v : ℕ → Bool) (slots : List EncodedSlot) (k : ℕ) (had i : EncodedInstance) → slice_get slots k ≡ Some (Block had)
    → slots_at v (set slots k (Block i)) ≡ block_put (slots_at v slots) k (instance_at v i)
block_put_there v slots k had i at =
    let there = get_or_from_slice_get (slots_at v slots) k (slot_at v (Block had)) (slot.Block (instance_at v i)) (slot_there v slots k (Some (Block had)) at) in
    map-set (slot_at v) slots k (Block i) ∙ ap (λ s. set (slots_at v slots) k (with_block s (instance_at v i))) (sym there)

-- The step of a box.
use Rattle.std.proofs.Common.{◌≡◌, ℕ, List, [], ◌∷◌, Bool, ℤ, slice_get, refl, ap, ◌∙◌}
use Rattle.std_blocks.specs.declared.block_state.BlockState.{BlockState}
use Rattle.std_blocks.specs.declared.pins.PinsIn.{PinsIn}
use Rattle.std_blocks.specs.declared.pins.PinsOut.{PinsOut}
use Rattle.std_blocks.specs.Blocks.{after, outputs_after}
use Rattle.scan_steps.specs.declared.slot.Instance.{Instance}
use Rattle.scan_steps.specs.declared.slot.Slot.{Slot}
use Rattle.scan_steps.specs.declared.bound_box.BoundBox.{BoundBox}
use Rattle.scan_steps.specs.Values.{int_or_zero, time_or_zero}
use Rattle.scan_steps.specs.Steps.BoxSteps.{made_by, state_in, box_inputs, box_result, bit_source}
use Rattle.scan_steps.specs.Steps.Sources.{source_bit, source_value}

abbrev pins : Bool → Bool → Bool → Bool → ℤ → ℕ → PinsIn
pins a b c d n t = record { bits = a ∷ b ∷ c ∷ d ∷ []; int = n; time = t }

-- the inputs of a box, one by one
inputs_unfolded : (e : BoundBox) (slots : List Slot) (bits : List Bool)
    → pins (source_bit slots bits (bit_source e 0)) (source_bit slots bits (bit_source e 1)) (source_bit slots bits (bit_source e 2))
    (source_bit slots bits (bit_source e 3)) (int_or_zero (source_value slots e.int)) (time_or_zero (source_value slots e.time))
    ≡ box_inputs e slots bits
unfolding box_inputs
inputs_unfolded e slots bits = refl

pub inputs_are : (e : BoundBox) (slots : List Slot) (bits : List Bool) (a b c d : Bool) (n : ℤ) (t : ℕ)
    → a ≡ source_bit slots bits (bit_source e 0) → b ≡ source_bit slots bits (bit_source e 1) → c ≡ source_bit slots bits (bit_source e 2)
    → d ≡ source_bit slots bits (bit_source e 3) → n ≡ int_or_zero (source_value slots e.int) → t ≡ time_or_zero (source_value slots e.time)
    → record { bits = a ∷ b ∷ c ∷ d ∷ []; int = n; time = t } ≡ box_inputs e slots bits
inputs_are e slots bits a b c d n t one two three four five six =
    ap (λ x. pins x b c d n t) one ∙ ap (λ x. pins (source_bit slots bits (bit_source e 0)) x c d n t) two
    ∙ ap (λ x. pins (source_bit slots bits (bit_source e 0)) (source_bit slots bits (bit_source e 1)) x d n t) three
    ∙ ap
    (λ x. pins (source_bit slots bits (bit_source e 0)) (source_bit slots bits (bit_source e 1)) (source_bit slots bits (bit_source e 2)) x n t)
    four
    ∙ ap
    (λ x. pins (source_bit slots bits (bit_source e 0)) (source_bit slots bits (bit_source e 1)) (source_bit slots bits (bit_source e 2))
    (source_bit slots bits (bit_source e 3)) x t) five
    ∙ ap
    (λ x. pins (source_bit slots bits (bit_source e 0)) (source_bit slots bits (bit_source e 1)) (source_bit slots bits (bit_source e 2))
    (source_bit slots bits (bit_source e 3)) (int_or_zero (source_value slots e.int)) x) six
    ∙ inputs_unfolded e slots bits

unfolded : (e : BoundBox) (slots : List Slot) (dt : ℕ) (bits : List Bool) → made_by (state_in e.block (slice_get slots e.instance)) (box_inputs e slots bits) dt ≡ box_result e slots dt bits
unfolding box_result
unfolded e slots dt bits = refl

abbrev instance : BlockState → PinsOut → Instance
instance s outputs = record { state = s; outputs = outputs }

-- what the step of a box leaves, by what its block's leaves of its inputs
pub box_stepped : (e : BoundBox) (slots : List Slot) (dt : ℕ) (bits : List Bool) (s new : BlockState) (p : PinsIn) (outputs : PinsOut)
    → s ≡ state_in e.block (slice_get slots e.instance) → p ≡ box_inputs e slots bits
    → (new ≡ after s p dt) × (outputs ≡ outputs_after s p dt) → record { state = new; outputs = outputs } ≡ box_result e slots dt bits
box_stepped e slots dt bits s new p outputs is reads stepped =
    ap (λ x. instance x outputs) stepped.0 ∙ ap (λ x. instance (after s p dt) x) stepped.1 ∙ ap (λ x. made_by x p dt) is
    ∙ ap (λ x. made_by (state_in e.block (slice_get slots e.instance)) x dt) reads ∙ unfolded e slots dt bits

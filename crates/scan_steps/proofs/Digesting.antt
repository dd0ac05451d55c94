-- What stands at one more name is mixed into a digest.
use Rattle.std.proofs.Common.{◌≡◌, ℕ, ◌<◌, List, ◌∷◌, Some, None, suc, length, drop, slice_get, sym, ap, ◌∙◌}
use Rattle.std.proofs.Math.Seq.{drop-cons}
use Rattle.std.proofs.lemmas.Option.{none-some, slice_get_within, get_or_from_slice_get}
use Rattle.lists.proofs.Places.{element_at}
use Rattle.scan_steps.specs.declared.slot.Slot.{Slot}
use Rattle.scan_steps.specs.Digests.{all_mixed, slot_numbers, slots_mixed}

pub mixed_more : (slots : List Slot) (k next : ℕ) (s : Slot) (d : ℕ) → next ≡ suc k → slice_get slots k ≡ Some s
    → slots_mixed d (drop k slots) ≡ slots_mixed (all_mixed d (slot_numbers s)) (drop next slots)
mixed_more slots k next s d e is =
    ap (slots_mixed d) (drop-cons slots k s (slice_get_within slots k s is) ∙ ap (λ x. x ∷ drop (suc k) slots) (get_or_from_slice_get slots k s s is))
    ∙ ap (λ n. slots_mixed (all_mixed d (slot_numbers s)) (drop n slots)) (sym e)

-- there is something at each place
pub found_at : (slots : List Slot) (k : ℕ) → k < length slots → slice_get slots k ≡ None → ⊥
found_at slots k less none = let here = element_at slots k less in none-some here.0 (sym none ∙ here.1)

-- Values that are stored, one after the other.
use Rattle.std.proofs.Common.{◌≡◌, ℕ, zero, suc, ◌+◌, ◌<◌, List, [], ◌∷◌, ◌++◌, Bool, true, false, ◌&&◌, ◌||◌, not, if◌then◌else◌, Some, None, length, get_or, drop, refl, sym, ap, ◌∙◌}
use Rattle.std.specs.Option.{option_map}
use Rattle.std.proofs.lemmas.List.{at_drop_more, get_or_default}
use Rattle.std_blocks.specs.declared.value.Value.{Value}
use Rattle.std_blocks.specs.declared.value.Value.TheVariants as value
use Rattle.scan_steps.specs.declared.slot.Instance.{Instance}
use Rattle.scan_steps.specs.declared.slot.Slot.{Slot}
use Rattle.scan_steps.specs.declared.slot.Slot.TheVariants.{Variable, Block}
use Rattle.std_blocks.specs.declared.pins.PinsOut.{PinsOut}
use Rattle.scan_steps.specs.declared.bound_box.BoundBox.{BoundBox}
use Rattle.scan_steps.specs.declared.bound_box.BoundOutput.{BoundOutput}
use Rattle.scan_steps.specs.declared.step.BoundCoil.{BoundCoil}
use Rattle.scan_steps.specs.Slots.{variable_at}
use Rattle.scan_steps.specs.Values.{is_true}
use Rattle.scan_steps.specs.Conducting.{bit_at}
use Rattle.scan_steps.specs.Steps.Storing.{value_put, block_put}
use Rattle.power_flow.specs.Meaning.{coil_value, store}
use Rattle.power_flow.specs.Steps.BoxStores.{kinds_stored, boxes_stored, pin_store, pin_stores}
use Rattle.power_flow.specs.Steps.CoilStores.{bound_store, bound_memory, bound_stores, bound_memories}

-- some stores, and then others
pub kinds_stored-append : (slots : List Slot) (a b : List (ℕ × Value)) → kinds_stored slots (a ++ b) ≡ kinds_stored (kinds_stored slots a) b
kinds_stored-append slots [] b = refl
kinds_stored-append slots (s ∷ a) b = kinds_stored-append (value_put slots s.0 s.1) a b

-- a BOOL that is stored where it stands changes nothing
pub same_put : (slots : List Slot) (k : ℕ) → value_put slots k (value.Bool (is_true (variable_at slots k))) ≡ slots
same_put [] k = refl
same_put (Variable (value.Bool b) ∷ slots) zero = refl
same_put (Variable (value.Int n) ∷ slots) zero = refl
same_put (Variable (value.Time t) ∷ slots) zero = refl
same_put (Block i ∷ slots) zero = refl
same_put (s ∷ slots) (suc k) = ap (λ l. s ∷ l) (same_put slots k)

-- TRUE is stored where the link is ON
pub set_stored : (slots : List Slot) (k : ℕ) (had link on : Bool) → had ≡ is_true (variable_at slots k) → on ≡ (had || link)
    → value_put slots k (value.Bool on) ≡ kinds_stored slots (store (Some k) (option_map value.Bool (if link then Some true else None)))
set_stored slots k had true on is or = ap (λ b. value_put slots k (value.Bool b)) (or ∙ or_true had)
  where
    or_true : (a : Bool) → (a || true) ≡ true
    or_true true = refl
    or_true false = refl
set_stored slots k had false on is or = ap (λ b. value_put slots k (value.Bool b)) (or ∙ or_false had ∙ is) ∙ same_put slots k
  where
    or_false : (a : Bool) → (a || false) ≡ a
    or_false true = refl
    or_false false = refl

-- FALSE is stored where the link is ON
pub reset_stored : (slots : List Slot) (k : ℕ) (had link on : Bool) → had ≡ is_true (variable_at slots k) → on ≡ (had && not link)
    → value_put slots k (value.Bool on) ≡ kinds_stored slots (store (Some k) (option_map value.Bool (if link then Some false else None)))
reset_stored slots k had true on is and = ap (λ b. value_put slots k (value.Bool b)) (and ∙ and_false had)
  where
    and_false : (a : Bool) → (a && false) ≡ false
    and_false true = refl
    and_false false = refl
reset_stored slots k had false on is and = ap (λ b. value_put slots k (value.Bool b)) (and ∙ and_true had ∙ is) ∙ same_put slots k
  where
    and_true : (a : Bool) → (a && true) ≡ a
    and_true true = refl
    and_true false = refl

-- one more coil
pub coils_more : (coils : List BoundCoil) (k : ℕ) (c : BoundCoil) (links memories later : List Bool) (slots next : List Slot) → k < length coils → get_or coils k c ≡ c
    → next ≡ kinds_stored slots (bound_store c (bit_at links k) memories) → later ≡ bound_memory c (bit_at links k) memories
    → (kinds_stored next (bound_stores (drop (k + 1) coils) (k + 1) links later) ≡ kinds_stored slots (bound_stores (drop k coils) k links memories))
    × (bound_memories (drop (k + 1) coils) (k + 1) links later ≡ bound_memories (drop k coils) k links memories)
coils_more coils k c links memories later slots next lt at is kept =
    let rest = drop (k + 1) coils in
    let here = ap (λ d. bound_stores (d ∷ rest) k links memories) (sym at) ∙ sym (at_drop_more (λ l. bound_stores l k links memories) coils k c lt) in (
      ap (λ s. kinds_stored s (bound_stores rest (k + 1) links later)) is
          ∙ ap (λ m. kinds_stored (kinds_stored slots (bound_store c (bit_at links k) memories)) (bound_stores rest (k + 1) links m)) kept
          ∙ sym (kinds_stored-append slots (bound_store c (bit_at links k) memories) (bound_stores rest (k + 1) links (bound_memory c (bit_at links k) memories)))
          ∙ ap (kinds_stored slots) here,
      ap (bound_memories rest (k + 1) links) kept ∙ ap (λ d. bound_memories (d ∷ rest) k links memories) (sym at)
          ∙ sym (at_drop_more (λ l. bound_memories l k links memories) coils k c lt),
    )

-- one more box
pub boxes_more : (boxes : List BoundBox) (results : List Instance) (k : ℕ) (e : BoundBox) (i : Instance) (slots next : List Slot) → k < length boxes → k < length results
    → get_or boxes k e ≡ e → get_or results k i ≡ i → next ≡ kinds_stored (block_put slots e.instance i) (pin_stores i.outputs e.outputs.items)
    → boxes_stored (drop (k + 1) boxes) (drop (k + 1) results) next ≡ boxes_stored (drop k boxes) (drop k results) slots
boxes_more boxes results k e i slots next lt less at has is =
    let rest = drop (k + 1) boxes in
    let later = drop (k + 1) results in
    ap (boxes_stored rest later) is
    ∙ ap (λ d. boxes_stored (e ∷ rest) (d ∷ later) slots) (sym has)
    ∙ ap (λ d. boxes_stored (d ∷ rest) (get_or results k i ∷ later) slots) (sym at)
    ∙ sym (at_drop_more (λ l. boxes_stored (get_or boxes k e ∷ rest) l slots) results k i less)
    ∙ sym (at_drop_more (λ l. boxes_stored l (drop k results) slots) boxes k e lt)

-- the same, where the link is known by another name
pub coils_more_by : (coils : List BoundCoil) (k : ℕ) (d : BoundCoil) (on : Bool) (links memories later : List Bool) (slots next : List Slot) → k < length coils → bit_at links k ≡ on
    → next ≡ kinds_stored slots (bound_store (get_or coils k d) on memories) → later ≡ bound_memory (get_or coils k d) on memories
    → (kinds_stored next (bound_stores (drop (k + 1) coils) (k + 1) links later) ≡ kinds_stored slots (bound_stores (drop k coils) k links memories))
    × (bound_memories (drop (k + 1) coils) (k + 1) links later ≡ bound_memories (drop k coils) k links memories)
coils_more_by coils k d on links memories later slots next lt same is kept =
    let c = get_or coils k d in
    coils_more coils k c links memories later slots next lt (sym (get_or_default coils k d c lt))
    (is ∙ ap (λ b. kinds_stored slots (bound_store c b memories)) (sym same)) (kept ∙ ap (λ b. bound_memory c b memories) (sym same))

-- one more pin
pub pins_more : (pins : List BoundOutput) (values : PinsOut) (i : ℕ) (d : BoundOutput) (slots next : List Slot) → i < length pins
    → next ≡ kinds_stored slots (pin_store values (get_or pins i d) (get_or pins i d).store)
    → kinds_stored next (pin_stores values (drop (i + 1) pins)) ≡ kinds_stored slots (pin_stores values (drop i pins))
pins_more pins values i d slots next lt is =
    let rest = drop (i + 1) pins in
    ap (λ s. kinds_stored s (pin_stores values rest)) is
    ∙ sym (kinds_stored-append slots (pin_store values (get_or pins i d) (get_or pins i d).store) (pin_stores values rest))
    ∙ sym (at_drop_more (λ l. kinds_stored slots (pin_stores values l)) pins i d lt)

-- what a coil stores, by the signal of its memory
pub stored_by : (slots next : List Slot) (c : BoundCoil) (link memory : Bool) (memories : List Bool) → bit_at memories c.memory ≡ memory
    → next ≡ kinds_stored slots (store c.place (option_map value.Bool (coil_value c.kind link memory))) → next ≡ kinds_stored slots (bound_store c link memories)
stored_by slots next c link memory memories same is =
    is ∙ ap (λ b. kinds_stored slots (store c.place (option_map value.Bool (coil_value c.kind link b)))) (sym same)

-- The step of a box, by the inputs that its block's type reads.
use Rattle.std.proofs.Common.{◌≡◌, ℕ, ◌+◌, ◌<◌, ◌⊎◌, ◌↔◌, inl, inr, List, Bool, true, false, Some, Any, length, slice_get, get_or, set, take, arith, refl, sym, ap, ◌∙◌, subst}
use Rattle.std.proofs.lemmas.Bool.{cases_eq}
use Rattle.std.proofs.lemmas.List.{get_or-take, length-take, get_or-set_same, get_or-set_other}
use Rattle.std.proofs.lemmas.Option.{slice_get-get_or}
use Rattle.lists.proofs.Places.{some_same}
use Rattle.std_blocks.specs.declared.block_type.BlockType.{BlockType}
use Rattle.std_blocks.specs.declared.block_type.BlockType.TheVariants.{SR, RS, CTU, CTD, CTUD, TP, TON, TOF}
use Rattle.std_blocks.specs.declared.block_state.BlockState.{BlockState}
use Rattle.std_blocks.specs.Blocks.{state_after, outputs_of, after, outputs_after}
use Rattle.std_blocks.specs.declared.pins.PinsIn.{PinsIn}
use Rattle.std_blocks.specs.declared.pins.PinsOut.{PinsOut}
use Rattle.std_blocks.specs.Pins.{field_value}
use Rattle.scan_steps.specs.declared.slot.Slot.{Slot}
use Rattle.scan_steps.specs.declared.bound_box.BoundBox.{BoundBox}
use Rattle.scan_steps.specs.declared.bound_box.BoundOutput.{BoundOutput}
use Rattle.scan_steps.specs.Values.{is_true}
use Rattle.scan_steps.specs.Conducting.{bit_at}
use Rattle.scan_steps.specs.Steps.BoxSteps.{IsMarked, HasOutput, read_by, made_by, state_in, box_inputs, box_result}

-- a block's step is that of the inputs that a block of its type reads
pub read_state : (block : BlockType) (s : BlockState) (pins : PinsIn) (dt : ℕ) → state_after block s (read_by block pins) dt ≡ state_after block s pins dt
read_state SR s pins dt = refl
read_state RS s pins dt = refl
read_state CTU s pins dt = refl
read_state CTD s pins dt = refl
read_state CTUD s pins dt = refl
read_state TP s pins dt = refl
read_state TON s pins dt = refl
read_state TOF s pins dt = refl

pub read_outputs : (block : BlockType) (s : BlockState) (pins : PinsIn) → outputs_of block s (read_by block pins) ≡ outputs_of block s pins
read_outputs SR s pins = refl
read_outputs RS s pins = refl
read_outputs CTU s pins = refl
read_outputs CTD s pins = refl
read_outputs CTUD s pins = refl
read_outputs TP s pins = refl
read_outputs TON s pins = refl
read_outputs TOF s pins = refl

-- what the step leaves
pub read_result : (s : BlockState) (pins : PinsIn) (dt : ℕ) → made_by s (read_by s.block pins) dt ≡ made_by s pins dt
read_result s pins dt =
    let state = read_state s.block s pins dt in
    let outputs = read_outputs s.block (state_after s.block s pins dt) pins in
    let here : outputs_of s.block (state_after s.block s (read_by s.block pins) dt) (read_by s.block pins) ≡ outputs_of s.block (state_after s.block s pins dt) pins
    = ap (λ t. outputs_of s.block t (read_by s.block pins)) state ∙ outputs in
    ap (λ t. record { state = t; outputs = outputs_of s.block (state_after s.block s (read_by s.block pins) dt) (read_by s.block pins) }) state ∙ ap (λ o. record { state = state_after s.block s pins dt; outputs = o }) here

unfolded : (e : BoundBox) (slots : List Slot) (dt : ℕ) (bits : List Bool) → made_by (state_in e.block (slice_get slots e.instance)) (box_inputs e slots bits) dt ≡ box_result e slots dt bits
unfolding box_result
unfolded e slots dt bits = refl

-- a block that reads no others leaves what the box does
pub step_result : (e : BoundBox) (slots : List Slot) (dt : ℕ) (bits : List Bool) (state next : BlockState) (pins : PinsIn) (shown : PinsOut)
    → state ≡ state_in e.block (slice_get slots e.instance) → pins ≡ read_by state.block (box_inputs e slots bits)
    → next ≡ after state pins dt → shown ≡ outputs_after state pins dt
    → record { state = next; outputs = shown } ≡ box_result e slots dt bits
step_result e slots dt bits state next pins shown is read stepped shows =
    ap (λ t. record { state = t; outputs = shown }) stepped ∙ ap (λ o. record { state = after state pins dt; outputs = o }) shows
    ∙ ap (λ p. made_by state p dt) read ∙ read_result state (box_inputs e slots bits) dt ∙ ap (λ t. made_by t (box_inputs e slots bits) dt) is ∙ unfolded e slots dt bits

-- one more pin
pub any_more : {X : Type 0} (P : X → Type 0) (xs : List X) (i : ℕ) (d : X) → i < length xs → Any P (take i xs) ⊎ P (get_or xs i d) → Any P (take (i + 1) xs)
any_more P xs i d lt (inl (k, x, in', at, p)) =
    let long = length-take i xs in
    let more = length-take (i + 1) xs in
    (k, x, omega arith, get_or-take (i + 1) xs k x (omega arith) ∙ sym (get_or-take i xs k x (omega arith)) ∙ at, p)
any_more P xs i d lt (inr p) =
    let more = length-take (i + 1) xs in
    let there = slice_get-get_or xs i d lt in
    (i, get_or xs i d, omega arith, get_or-take (i + 1) xs i (get_or xs i d) (omega arith) ∙ some_same (sym (slice_get-get_or xs i (get_or xs i d) lt) ∙ there), p)

pub any_less : {X : Type 0} (P : X → Type 0) (xs : List X) (i : ℕ) (d : X) → i < length xs → Any P (take (i + 1) xs) → Any P (take i xs) ⊎ P (get_or xs i d)
any_less P xs i d lt (k, x, in', at, p) =
    let long = length-take i xs in
    let more = length-take (i + 1) xs in
    let there : get_or xs k x ≡ x = sym (get_or-take (i + 1) xs k x (omega arith)) ∙ at in
    elim (cases_eq k i) [
      | inl e ↦
          let here : get_or xs i x ≡ x = rw e at there in
          inr (subst P (sym here ∙ some_same (sym (slice_get-get_or xs i x lt) ∙ slice_get-get_or xs i d lt)) p)
      | inr ne ↦ inl (k, x, omega arith, get_or-take i xs k x (omega arith) ∙ there, p)
    ]

abbrev Marks : PinsOut → ℕ → BoundOutput → Type 0
Marks values k o = (o.row ≡ k) × (is_true (Some (field_value values o.field)) ≡ true)

pub mark_more : (pins : List BoundOutput) (values : PinsOut) (i : ℕ) (d : BoundOutput) (old bits new : List Bool) → i < length pins
    → ((k : ℕ) → (bit_at bits k ≡ true) ↔ ((bit_at old k ≡ true) ⊎ IsMarked (take i pins) values k))
    → ((k : ℕ) → (bit_at new k ≡ true) ↔ ((bit_at bits k ≡ true) ⊎ (((get_or pins i d).row ≡ k) × (is_true (Some (field_value values (get_or pins i d).field)) ≡ true))))
    → (k : ℕ) → (bit_at new k ≡ true) ↔ ((bit_at old k ≡ true) ⊎ IsMarked (take (i + 1) pins) values k)
mark_more pins values i d old bits new lt was one k = (there, back)
  where
    there : bit_at new k ≡ true → (bit_at old k ≡ true) ⊎ IsMarked (take (i + 1) pins) values k
    there h = elim ((one k).0 h) [
      | inl b ↦ elim ((was k).0 b) [ inl o ↦ inl o | inr m ↦ inr (any_more (Marks values k) pins i d lt (inl m)) ]
      | inr p ↦ inr (any_more (Marks values k) pins i d lt (inr p))
    ]

    back : (bit_at old k ≡ true) ⊎ IsMarked (take (i + 1) pins) values k → bit_at new k ≡ true
    back (inl o) = (one k).1 (inl ((was k).1 (inl o)))
    back (inr m) = elim (any_less (Marks values k) pins i d lt m) [ inl less ↦ (one k).1 (inl ((was k).1 (inr less))) | inr p ↦ (one k).1 (inr p) ]

-- one more row is cleared
pub clear_more : (pins : List BoundOutput) (i : ℕ) (d : BoundOutput) (rows : List Bool) → i < length pins → (get_or pins i d).row < length rows
    → ((r : ℕ) → HasOutput (take i pins) r → bit_at rows r ≡ false)
    → (r : ℕ) → HasOutput (take (i + 1) pins) r → bit_at (set rows (get_or pins i d).row false) r ≡ false
clear_more pins i d rows lt in' cleared r has = elim (cases_eq r (get_or pins i d).row) [
  | inl same ↦ rw same (get_or-set_same rows (get_or pins i d).row false false in')
  | inr ne ↦ get_or-set_other rows (get_or pins i d).row r false false ne ∙ cleared r (elim (any_less (λ o. o.row ≡ r) pins i d lt has) [ inl less ↦ less | inr e ↦ absurd (ne (sym e)) ])
]

pub clear_kept : (pins : List BoundOutput) (i : ℕ) (d : BoundOutput) (rows initial : List Bool) → i < length pins
    → ((r : ℕ) → (HasOutput (take i pins) r → ⊥) → bit_at rows r ≡ bit_at initial r)
    → (r : ℕ) → (HasOutput (take (i + 1) pins) r → ⊥) → bit_at (set rows (get_or pins i d).row false) r ≡ bit_at initial r
clear_kept pins i d rows initial lt kept r none =
    get_or-set_other rows (get_or pins i d).row r false false (λ e. none (any_more (λ o. o.row ≡ r) pins i d lt (inr (sym e)))) ∙ kept r (λ has. none (any_more (λ o. o.row ≡ r) pins i d lt (inl has)))

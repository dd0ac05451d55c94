-- What is found of what was expected, variable by variable and scan by scan.
use Rattle.std.proofs.Common.{◌≡◌, ℕ, ◌+◌, ◌<◌, ◌≤◌, ◌++◌, List, [], ◌∷◌, Option, None, Some, inl, inr, length, take, get_or, sym, ap, ◌∙◌, subst, subst₂, arith}
use Rattle.std.proofs.lemmas.List.{length-append, map-append, take_all, take_more}
use Rattle.std.proofs.lemmas.List.Elements.{All-push}
use Rattle.std.proofs.lemmas.Bool.{cases_lt}
use Rattle.std.proofs.lemmas.Option.{slice_get_within, get_or_from_slice_get, same_Some}
use Rattle.std.specs.Prelude.{All, slice_get}
use Rattle.lists.proofs.Places.{slice_get-append}
use Rattle.std_blocks.specs.declared.value.Value.{Value}
use Rattle.declared_names.specs.declared.declarations.Declaration.{Declaration}
use Rattle.scan_steps.specs.declared.slot.Slot.{Slot}
use Rattle.power_flow.specs.StateValue.{StateValue}
use Rattle.text_commands.specs.declared.difference.Difference.{Difference}
use Rattle.text_commands.specs.Series.{SeriesValue, IsOfVariable}
use Rattle.text_commands.specs.TestText.{AgreesAt, AgreesBefore, IsFirstOther, IsOtherAt}
use Rattle.text_commands.specs.Steps.Testing.{GoesOn, IsFoundAt, slots_of}

-- one variable more is as expected
pub agrees_more : (expected : List SeriesValue) (i : ℕ) (x : SeriesValue) (k : ℕ) (slots : List Slot) → i < length expected → x ≡ get_or expected i x → AgreesAt (take i expected) k slots
    → ((value wanted : Value) → IsOtherAt x k slots value wanted → ⊥) → AgreesAt (take (i + 1) expected) k slots
agrees_more expected i x k slots lt is before here =
    subst (λ l. AgreesAt l k slots) (sym (take_more expected i x lt))
    (All-push (λ (row : SeriesValue). (value wanted : Value) → IsOtherAt row k slots value wanted → ⊥) (take i expected) (get_or expected i x) before
    (subst (λ (r : SeriesValue). (value wanted : Value) → IsOtherAt r k slots value wanted → ⊥) is here))

pub agrees_all : (expected : List SeriesValue) (i k : ℕ) (slots : List Slot) → length expected ≤ i → AgreesAt (take i expected) k slots → AgreesAt expected k slots
agrees_all expected i k slots all agrees = subst (λ l. AgreesAt l k slots) (take_all i expected all) agrees

-- of what has another value than is expected a name is declared
pub other_declared : (ds : List Declaration) (expected : List SeriesValue) (k : ℕ) (slots : List Slot) (place : ℕ) (value wanted : Value) → All (IsOfVariable ds) expected
    → IsFirstOther expected k slots place value wanted → (d : Declaration) × (slice_get ds place ≡ Some d)
other_declared ds expected k slots place value wanted all first =
    let within = slice_get_within expected first.number first.row first.at in
    let of = subst (IsOfVariable ds) (get_or_from_slice_get expected first.number first.row first.row first.at) (all first.number first.row within) in
    (of.1.0, ap (slice_get ds) first.place_is ∙ of.1.1)

at_last : (states : List (List Slot)) (slots found : List Slot) (k : ℕ) → length states ≡ k → slice_get (states ++ slots ∷ []) k ≡ Some found → slots ≡ found
at_last states slots found k long at = elim (slice_get-append states (slots ∷ []) k) [
  | inl early ↦ absurd (let lt = early.0 in omega arith)
  | inr late ↦ (let first : late.0 ≡ 0 = let e = late.1 in omega arith in
      same_Some slots found (sym (late.2 ∙ ap (slice_get (slots ∷ [])) first) ∙ at))
]

at_before : (states : List (List Slot)) (slots found : List Slot) (j : ℕ) → j < length states → slice_get (states ++ slots ∷ []) j ≡ Some found → slice_get states j ≡ Some found
at_before states slots found j lt at = elim (slice_get-append states (slots ∷ []) j) [
  | inl early ↦ sym early.1 ∙ at
  | inr late ↦ absurd (let e = late.1 in omega arith)
]

still_at : (states : List (List Slot)) (slots found : List Slot) (j : ℕ) → slice_get states j ≡ Some found → slice_get (states ++ slots ∷ []) j ≡ Some found
still_at states slots found j at = let lt = slice_get_within states j found at in elim (slice_get-append states (slots ∷ []) j) [
  | inl early ↦ early.1 ∙ at
  | inr late ↦ absurd (let e = late.1 in omega arith)
]

last_at : (states : List (List Slot)) (slots : List Slot) → slice_get (states ++ slots ∷ []) (length states) ≡ Some slots
last_at states slots = elim (slice_get-append states (slots ∷ []) (length states)) [
  | inl early ↦ absurd (let lt = early.0 in omega arith)
  | inr late ↦ (let first : late.0 ≡ 0 = let e = late.1 in omega arith in late.2 ∙ ap (slice_get (slots ∷ [])) first)
]

still_before : (expected : List SeriesValue) (states : List (List Slot)) (slots : List Slot) (k : ℕ) → k ≤ length states → AgreesBefore expected states k → AgreesBefore expected (states ++ slots ∷ []) k
still_before expected states slots k few before j found lt at = before j found lt (at_before states slots found j (omega arith) at)

-- what was found is found still after one scan more
pub found_still : (ds : List Declaration) (expected : List SeriesValue) (k : ℕ) (slots : List Slot) (difference : Difference) → GoesOn ds expected k slots (Some difference) (Some difference)
found_still ds expected k slots difference states long found =
    let within = slice_get_within states found.k found.slots found.at in
    record {
      k = found.k;
      slots = found.slots;
      at = still_at states slots found.slots found.k found.at;
      before = still_before expected states slots found.k (omega arith) found.before;
      here = found.here;
    }

-- where nothing was found before, that is found which is found after this scan
pub found_now : (ds : List Declaration) (expected : List SeriesValue) (k : ℕ) (slots : List Slot) (found : Option Difference) → IsFoundAt ds expected k slots found → GoesOn ds expected k slots None found
found_now ds expected k slots None here = λ states long before j other lt at. elim (cases_lt j (length states)) [
  | inl early ↦ before j other early (at_before states slots other j early at)
  | inr late ↦ (let more = length-append states (slots ∷ []) in
      let same : j ≡ k = omega arith in
      let now : slice_get (states ++ slots ∷ []) k ≡ Some other = subst (λ i. slice_get (states ++ slots ∷ []) i ≡ Some other) same at in
      subst₂ (λ i s. AgreesAt expected i s) (sym same) (at_last states slots other k long now) here)
]
found_now ds expected k slots (Some difference) here = λ states long before. record {
  k = k;
  slots = slots;
  at = subst (λ n. slice_get (states ++ slots ∷ []) n ≡ Some slots) long (last_at states slots);
  before = still_before expected states slots k (omega arith) (subst (AgreesBefore expected states) long before);
  here = here;
}

-- the states with one more
pub one_more_slots : (states : List StateValue) (i : ℕ) (x : StateValue) → i < length states → x ≡ get_or states i x → slots_of (take (i + 1) states) ≡ slots_of (take i states) ++ x.slots ∷ []
one_more_slots states i x lt is =
    ap slots_of (take_more states i x lt ∙ ap (λ y. take i states ++ y ∷ []) (sym is)) ∙ map-append (λ (s : StateValue). s.slots) (take i states) (x ∷ [])

-- before the first scan nothing is found
pub nothing_found : (expected : List SeriesValue) → AgreesBefore expected [] 0
nothing_found expected j found lt at = absurd (omega arith)

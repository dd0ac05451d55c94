-- The slots of one list where they matter, and those of another where they don't.
use Rattle.std.proofs.Common.{◌≡◌, ℕ, zero, suc, ◌+◌, ◌⊎◌, inl, inr, List, [], ◌∷◌, Bool, true, false, Option, Some, None, length, map, slice_get, get_or, set, length-set, refl, sym, ap, ◌∙◌, subst, arith}
use Rattle.std.specs.Prelude.{if◌then◌else◌}
use Rattle.std.specs.List.{enumerate_from}
use Rattle.std.specs.Option.{option_map}
use Rattle.std.proofs.lemmas.Bool.{cases_eq, cases_lt}
use Rattle.std.proofs.lemmas.Option.{slice_get-get_or, slice_get_past}
use Rattle.lists.proofs.Places.{element_at, slice_get-set_same, slice_get-set_other}
use Rattle.scan_steps.specs.declared.slot.Slot.{Slot}
use Rattle.needed_networks.specs.Needs.{IsIdle}
use Rattle.needed_networks.specs.Slices.{AreAgreed}

-- the slot of the second list where the place is idle, else that of the first
abbrev pub picked : List Bool → List Slot → ℕ → Slot → Slot
picked idle xs k y = if get_or idle k false then y else get_or xs k y

abbrev pub merged : List Bool → List Slot → List Slot → List Slot
merged idle xs ys = map (λ e. picked idle xs e.0 e.1) (enumerate_from 0 ys)

length_merged_from : (idle : List Bool) (xs ys : List Slot) (n : ℕ) → length (map (λ e. picked idle xs e.0 e.1) (enumerate_from n ys)) ≡ length ys
length_merged_from idle xs [] n = refl
length_merged_from idle xs (y ∷ ys) n = ap suc (length_merged_from idle xs ys (n + 1))

pub length_merged : (idle : List Bool) (xs ys : List Slot) → length (merged idle xs ys) ≡ length ys
length_merged idle xs ys = length_merged_from idle xs ys 0

merged_from : (idle : List Bool) (xs ys : List Slot) (n k : ℕ)
    → slice_get (map (λ e. picked idle xs e.0 e.1) (enumerate_from n ys)) k ≡ option_map (λ y. picked idle xs (n + k) y) (slice_get ys k)
merged_from idle xs [] n k = refl
merged_from idle xs (y ∷ ys) n zero = let e : n ≡ n + 0 = omega arith in ap (λ j. Some (picked idle xs j y)) e
merged_from idle xs (y ∷ ys) n (suc k) =
    let e : n + 1 + k ≡ n + suc k = omega arith in
    merged_from idle xs ys (n + 1) k ∙ ap (λ j. option_map (λ y. picked idle xs j y) (slice_get ys k)) e

merged_at : (idle : List Bool) (xs ys : List Slot) (k : ℕ) → slice_get (merged idle xs ys) k ≡ option_map (λ y. picked idle xs k y) (slice_get ys k)
merged_at idle xs ys k = let e : 0 + k ≡ k = omega arith in merged_from idle xs ys 0 k ∙ ap (λ j. option_map (λ y. picked idle xs j y) (slice_get ys k)) e

pub idle_cases : (idle : List Bool) (k : ℕ) → (get_or idle k false ≡ true) ⊎ (get_or idle k false ≡ false)
idle_cases idle k = go (get_or idle k false) refl
  where
    go : (b : Bool) → get_or idle k false ≡ b → (get_or idle k false ≡ true) ⊎ (get_or idle k false ≡ false)
    go true e = inl e
    go false e = inr e

pub merged_idle : (idle : List Bool) (xs ys : List Slot) (k : ℕ) → get_or idle k false ≡ true → slice_get (merged idle xs ys) k ≡ slice_get ys k
merged_idle idle xs ys k on = merged_at idle xs ys k ∙ go (slice_get ys k)
  where
    go : (o : Option Slot) → option_map (λ y. picked idle xs k y) o ≡ o
    go None = refl
    go (Some y) = ap (λ b. Some (if b then y else get_or xs k y)) on

pub merged_busy : (idle : List Bool) (xs ys : List Slot) (k : ℕ) → get_or idle k false ≡ false → length xs ≡ length ys → slice_get (merged idle xs ys) k ≡ slice_get xs k
merged_busy idle xs ys k off long = merged_at idle xs ys k ∙ elim (cases_lt k (length ys)) [
  | inl lt ↦
      let found = element_at ys k lt in
      ap (λ o. option_map (λ y. picked idle xs k y) o) found.1
      ∙ ap (λ b. Some (if b then found.0 else get_or xs k found.0)) off
      ∙ sym (slice_get-get_or xs k found.0 (omega arith))
  | inr past ↦
      ap (λ o. option_map (λ y. picked idle xs k y) o) (slice_get_past ys k past)
      ∙ sym (slice_get_past xs k (omega arith))
]

-- what is idle where the place matters is none
pub busy : (idle : List Bool) (k : ℕ) → (IsIdle idle k → ⊥) → get_or idle k false ≡ false
busy idle k not_idle = elim (idle_cases idle k) [ inl on ↦ absurd (not_idle on) | inr off ↦ off ]

pub not_idle_from : (idle : List Bool) (k : ℕ) → get_or idle k false ≡ false → IsIdle idle k → ⊥
not_idle_from idle k off on = cc

-- one store in both lists
pub set_agreed : (idle : List Bool) (xs ys : List Slot) (place : ℕ) (x : Slot) → AreAgreed idle xs ys → AreAgreed idle (set xs place x) (set ys place x)
set_agreed idle xs ys place x agreed = record {
  long = length-set ys place x ∙ agreed.long ∙ sym (length-set xs place x);
  same = λ k matters. elim (cases_eq k place) [
    | inl is ↦ subst (λ j. slice_get (set xs place x) j ≡ slice_get (set ys place x) j) (sym is) here
    | inr other ↦ slice_get-set_other xs place k x other ∙ agreed.same k matters ∙ sym (slice_get-set_other ys place k x other)
  ];
}
  where
    long : length ys ≡ length xs
    long = agreed.long

    here : slice_get (set xs place x) place ≡ slice_get (set ys place x) place
    here = elim (cases_lt place (length xs)) [
      | inl lt ↦ slice_get-set_same xs place x lt ∙ sym (slice_get-set_same ys place x (let l = long in omega arith))
      | inr past ↦
          let p = length-set xs place x in
          let q = length-set ys place x in
          let l = long in
          slice_get_past (set xs place x) place (omega arith) ∙ sym (slice_get_past (set ys place x) place (omega arith))
    ]

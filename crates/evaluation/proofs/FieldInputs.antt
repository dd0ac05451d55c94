-- Field inputs that are read.
use Rattle.std.proofs.Common.{◌≡◌, ◌≢◌, Bool, true, false, cond, IsTrue, nat_cmp, ℕ, ◌+◌, ◌*◌, ◌<◌, ◌⊎◌, ◌↔◌, inl, inr, List, length, slice_get, Some, arith, sym, ap, ◌∙◌}
use Rattle.std.proofs.lemmas.Bool.{cases_eq, cases_lt}
use Rattle.std.proofs.lemmas.Option.{slice_get_within, same_Some}
use Rattle.words.specs.declared.address.Address.{Address}
use Rattle.evaluation.specs.declared.field_input.FieldInput.{FieldInput}
use Rattle.evaluation.specs.declared.field_input.FieldInput.TheVariants.{Bit, Word}
use Rattle.evaluation.specs.Inputs.{address_of}
use Rattle.evaluation.specs.Steps.InputWords.{key_of}
use Rattle.evaluation.specs.InputTexts.{AreApart}
use Rattle.std.specs.Ordering.{is_eq}
use Rattle.std.specs.declared.cmp.Ordering.TheVariants.{Less, Equal, Greater}
use Rattle.std.specs.Cmp.{nat_cmp_is}

-- inputs of one key stand at one address, and the other way round
pub same_key : (a b : FieldInput) → key_of a ≡ key_of b → address_of a ≡ address_of b
same_key (Bit m v) (Bit n w) e = let same : m ≡ n = omega (arith, e) in ap (λ (k : ℕ). address_of (Bit k v)) same
same_key (Word m v) (Word n w) e = let same : m ≡ n = omega (arith, e) in ap (λ (k : ℕ). address_of (Word k v)) same
same_key (Bit m v) (Word n w) e = absurd (omega (arith, e))
same_key (Word m v) (Bit n w) e = absurd (omega (arith, e))

pub same_address_key : (a b : FieldInput) → address_of a ≡ address_of b → key_of a ≡ key_of b
same_address_key (Bit m v) (Bit n w) e = ap (λ (x : Address). 2 * x.number) e
same_address_key (Word m v) (Word n w) e = ap (λ (x : Address). 2 * x.number + 1) e
same_address_key (Bit m v) (Word n w) e = absurd (let s = ap (λ (x : Address). x.space) e in cc)
same_address_key (Word m v) (Bit n w) e = absurd (let s = ap (λ (x : Address). x.space) e in cc)

-- one of the first n inputs has the key
abbrev pub HasKey : List FieldInput → ℕ → ℕ → Type 0
HasKey inputs n x = (j : ℕ) × (i : FieldInput) × (j < n) × (slice_get inputs j ≡ Some i) × (key_of i ≡ x)

-- the first n inputs have different keys
abbrev pub KeysApart : List FieldInput → ℕ → Type 0
KeysApart inputs n = (j k : ℕ) (a b : FieldInput) → j < n → k < n → slice_get inputs j ≡ Some a → slice_get inputs k ≡ Some b → key_of a ≡ key_of b → j ≡ k

-- one more key
pub has_more : (inputs : List FieldInput) (n x : ℕ) (i : FieldInput) → slice_get inputs n ≡ Some i → HasKey inputs (n + 1) x ↔ ((key_of i ≡ x) ⊎ HasKey inputs n x)
has_more inputs n x i at = (λ h. by h (cases_eq h.0 n), λ h. back h)
  where
    by : (h : HasKey inputs (n + 1) x) → (h.0 ≡ n) ⊎ (h.0 ≢ n) → (key_of i ≡ x) ⊎ HasKey inputs n x
    by h (inl same) = let e : i ≡ h.1 = same_Some i h.1 (sym at ∙ ap (slice_get inputs) (sym same) ∙ h.3) in inl (ap key_of e ∙ h.4)
    by h (inr ne) = inr (h.0, h.1, omega (arith, h.2), h.3, h.4)

    back : (key_of i ≡ x) ⊎ HasKey inputs n x → HasKey inputs (n + 1) x
    back (inl e) = (n, i, omega arith, at, e)
    back (inr h) = (h.0, h.1, omega (arith, h.2), h.3, h.4)

pub keys_more : (inputs : List FieldInput) (n : ℕ) (i : FieldInput) → slice_get inputs n ≡ Some i → (HasKey inputs n (key_of i) → ⊥) → KeysApart inputs n → KeysApart inputs (n + 1)
keys_more inputs n i at new h j k a b lj lk fa fb e = by (cases_eq j n) (cases_eq k n)
  where
    by : (j ≡ n) ⊎ (j ≢ n) → (k ≡ n) ⊎ (k ≢ n) → j ≡ k
    by (inl x) (inl y) = x ∙ sym y
    by (inl x) (inr y) = let same : i ≡ a = same_Some i a (sym at ∙ ap (slice_get inputs) (sym x) ∙ fa) in absurd (new (k, b, omega arith, fb, sym e ∙ ap key_of (sym same)))
    by (inr x) (inl y) = let same : i ≡ b = same_Some i b (sym at ∙ ap (slice_get inputs) (sym y) ∙ fb) in absurd (new (j, a, omega arith, fa, e ∙ ap key_of (sym same)))
    by (inr x) (inr y) = h j k a b (omega arith) (omega arith) fa fb e

pub apart_all : (inputs : List FieldInput) (n : ℕ) → KeysApart inputs n → n ≡ length inputs → AreApart inputs
apart_all inputs n h all j k a b fa fb e =
    h j k a b (let lt = slice_get_within inputs j a fa in omega arith) (let lt = slice_get_within inputs k b fb in omega arith) fa fb (same_address_key a b e)

-- fewer than two inputs
pub few_apart : (inputs : List FieldInput) → length inputs < 2 → AreApart inputs
few_apart inputs few j k a b fa fb e = let m = slice_get_within inputs j a fa in let n = slice_get_within inputs k b fb in omega (arith, few, m, n)

pub not_apart : (inputs : List FieldInput) (n : ℕ) (i : FieldInput) → slice_get inputs n ≡ Some i → HasKey inputs n (key_of i) → AreApart inputs → ⊥
not_apart inputs n i at h apart = let e : h.0 ≡ n = apart h.0 n h.1 i h.3 at (same_key h.1 i h.4) in omega (arith, h.2, e)

-- numbers are found by their own keys alone
cmp_same : (x y : ℕ) → x ≡ y → is_eq (nat_cmp x y) ≡ true
cmp_same x y e = ap is_eq (sym (nat_cmp_is x y Equal e))

cmp_other : (x y : ℕ) → x ≢ y → is_eq (nat_cmp x y) ≡ false
cmp_other x y ne = elim (cases_lt x y) [
  | inl lt ↦ ap is_eq (sym (nat_cmp_is x y Less lt))
  | inr le ↦ ap is_eq (sym (nat_cmp_is x y Greater (let apart = ne in omega arith)))
]

-- after one more key is put in, those known are the keys of one more input
pub known_more : (inputs : List FieldInput) (n x : ℕ) (i : FieldInput) (old new : Bool) → slice_get inputs n ≡ Some i → new ≡ cond (is_eq (nat_cmp (key_of i) x)) true old
    → IsTrue old ↔ HasKey inputs n x → IsTrue new ↔ HasKey inputs (n + 1) x
known_more inputs n x i old new at is h = elim (cases_eq (key_of i) x) [
  | inl same ↦ (let put : new ≡ true = is ∙ ap (λ b. cond b true old) (cmp_same (key_of i) x same) in (λ t. (has_more inputs n x i at).1 (inl same), λ k. put))
  | inr apart ↦ (let kept : new ≡ old = is ∙ ap (λ b. cond b true old) (cmp_other (key_of i) x apart) in
      (λ t. (has_more inputs n x i at).1 (inr (h.0 (sym kept ∙ t))), λ k. kept ∙ h.1 (other ((has_more inputs n x i at).0 k) apart)))
]
  where
    other : (key_of i ≡ x) ⊎ HasKey inputs n x → key_of i ≢ x → HasKey inputs n x
    other (inl e) ne = absurd (ne e)
    other (inr k) ne = k

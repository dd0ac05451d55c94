-- Lists that are written step by step.
use Rattle.std.specs.Prelude.{◌≡◌, ◌≢◌, ◌<◌, ◌⊎◌, ℕ, List, Option, Some, None, slice_get, slice_index}

-- what stands in the old list stands in the new one
abbrev pub Keeps : {A : Type 0} → List A → List A → Type 0
Keeps {A} old new = (k : ℕ) (x : A) → slice_get old k ≡ Some x → slice_get new k ≡ Some x

-- the same but for one place
abbrev pub KeepsOthers : {A : Type 0} → ℕ → List A → List A → Type 0
KeepsOthers {A} place old new = (k : ℕ) (x : A) → k ≢ place → slice_get old k ≡ Some x → slice_get new k ≡ Some x

-- the new list has nothing but what stood in the old one and this
abbrev pub HasNoOther : {A : Type 0} → A → List A → List A → Type 0
HasNoOther {A} added old new = (k : ℕ) (x : A) → slice_get new k ≡ Some x → (slice_get old k ≡ Some x) ⊎ (x ≡ added)

-- this holds of each
abbrev pub AreSuch : {A : Type 0} → (A → Type 0) → List A → Type 0
AreSuch {A} IsSuch xs = (k : ℕ) (x : A) → slice_get xs k ≡ Some x → IsSuch x

-- each entry is None
abbrev pub AreNone : {A : Type 0} → List (Option A) → Type 0
AreNone {A} table = AreSuch (λ (x : Option A). x ≡ None) table

-- the first n of the numbers are below a bound
abbrev pub AreBelow : ℕ → List ℕ → ℕ → Type 0
AreBelow n numbers bound = (k : ℕ) → k < n → slice_index numbers k < bound

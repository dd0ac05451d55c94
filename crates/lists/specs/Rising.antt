-- The order of a list's items.
use Rattle.std.specs.Prelude.{◌≡◌, ℕ, ◌<◌, List, Some, Contains, slice_get}

-- of two items the one before stands so to the other
abbrev pub IsRising : {A : Type 0} → (A → A → Type 0) → List A → Type 0
IsRising {A} IsBelow xs = (j k : ℕ) (x y : A) → j < k → slice_get xs j ≡ Some x → slice_get xs k ≡ Some y → IsBelow x y

-- no two items stand so to each other
abbrev pub IsOneWay : {A : Type 0} → (A → A → Type 0) → List A → Type 0
IsOneWay {A} IsBelow xs = (x y : A) → Contains xs x → Contains xs y → IsBelow x y → IsBelow y x → ⊥

-- two items that are alike are at one place
abbrev pub IsAlikeOnce : {A : Type 0} → (A → A → Type 0) → List A → Type 0
IsAlikeOnce {A} alike xs = (j k : ℕ) (x y : A) → slice_get xs j ≡ Some x → slice_get xs k ≡ Some y → alike x y → j ≡ k

-- Lists that are alike item by item.
use Rattle.std.specs.Prelude.{◌≡◌, ◌≢◌, ◌⊎◌, ℕ, Bool, true, false, List, Some, length, slice_get}

-- they stand at one place of two lists
abbrev pub AreFellows : {X : Type 0} → List X → List X → X → X → Type 0
AreFellows xs ys x y = (i : ℕ) × (slice_get xs i ≡ Some x) × (slice_get ys i ≡ Some y)

-- the lists are as long, and the items at each place are alike
pub record AreAlike {X : Type 0} (alike : X → X → Type 0) (xs ys : List X) : Type 0 where
  pub many : length xs ≡ length ys
  pub each : (x y : X) → AreFellows xs ys x y → alike x y

-- the lists aren't as long, or the items at a place are apart
abbrev pub AreApart : {X : Type 0} → (X → X → Type 0) → List X → List X → Type 0
AreApart {X} apart xs ys = (length xs ≢ length ys) ⊎ ((x y : X) × AreFellows xs ys x y × apart x y)

-- what is told of two lists follows from the answers at their items
pub record Tells {X : Type 0} (answers : X → X → Bool → Type 0) (told : Bool) (xs ys : List X) : Type 0 where
  pub same : told ≡ true → AreAlike (λ x y. answers x y true) xs ys
  pub other : told ≡ false → AreApart (λ x y. answers x y false) xs ys

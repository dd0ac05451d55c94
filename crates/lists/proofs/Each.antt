-- What holds of each item of a list, and what is among its items.
use Rattle.std.proofs.Common.{◌≡◌, inl, inr, ℕ, zero, suc, List, [], ◌∷◌, ◌++◌, Some, refl, subst}
use Rattle.std.specs.Prelude.{slice_get}
use Rattle.std.proofs.lemmas.Option.{none-some, same_Some}
use Rattle.std.specs.List.{AllByRecursion}
use Rattle.lists.specs.Among.{Among}

-- what each item has, one of them has
pub Each-at : {X : Type 0} (P : X → Type 0) (xs : List X) (y : X) → AllByRecursion P xs → Among y xs → P y
Each-at P [] y all among = elim among [ ]
Each-at P (x ∷ xs) y all (inl same) = subst P same all.0
Each-at P (x ∷ xs) y all (inr among) = Each-at P xs y all.1 among

-- and the other way round
pub Each-from : {X : Type 0} (P : X → Type 0) (xs : List X) → ((y : X) → Among y xs → P y) → AllByRecursion P xs
Each-from P [] every = tt
Each-from P (x ∷ xs) every = (every x (inl refl), Each-from P xs (λ y among. every y (inr among)))

-- the item at a place is one of them
pub slice_get-among : {X : Type 0} (xs : List X) (k : ℕ) (y : X) → slice_get xs k ≡ Some y → Among y xs
slice_get-among [] k y at = absurd (none-some y at)
slice_get-among (x ∷ xs) zero y at = inl (same_Some x y at)
slice_get-among (x ∷ xs) (suc k) y at = inr (slice_get-among xs k y at)

pub each-append : {X : Type 0} (P : X → Type 0) (xs ys : List X) → AllByRecursion P xs → AllByRecursion P ys → AllByRecursion P (xs ++ ys)
each-append P [] ys a b = b
each-append P (x ∷ xs) ys a b = (a.0, each-append P xs ys a.1 b)

pub each-push : {X : Type 0} (P : X → Type 0) (xs : List X) (x : X) → AllByRecursion P xs → P x → AllByRecursion P (xs ++ x ∷ [])
each-push P xs x all one = each-append P xs (x ∷ []) all (one, tt)

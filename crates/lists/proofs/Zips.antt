-- Two lists whose elements are related one to one.
use Rattle.std.proofs.Common.{◌≡◌, ℕ, zero, suc, List, [], ◌∷◌, ◌++◌, Some, length, slice_get, refl, ap, subst}
use Rattle.std.proofs.lemmas.Option.{same_Some}
use Rattle.std.specs.List.{AllZip}

-- they have one length
pub zip_length : {A B : Type 0} (R : A → B → Type 0) (xs : List A) (ys : List B) → AllZip R xs ys → length xs ≡ length ys
zip_length R [] [] z = refl
zip_length R [] (y ∷ ys) z = absurd z
zip_length R (x ∷ xs) [] z = absurd z
zip_length R (x ∷ xs) (y ∷ ys) z = ap suc (zip_length R xs ys z.1)

-- an element of the first has its partner, and one of the second too
pub zip_at : {A B : Type 0} (R : A → B → Type 0) (xs : List A) (ys : List B) → AllZip R xs ys → (k : ℕ) (x : A) → slice_get xs k ≡ Some x → (y : B) × (slice_get ys k ≡ Some y) × R x y
zip_at R [] [] z k x at = cc
zip_at R [] (y ∷ ys) z k x at = absurd z
zip_at R (w ∷ xs) [] z k x at = absurd z
zip_at R (w ∷ xs) (y ∷ ys) z zero x at = let P : _ → Type 0 = λ v. R v y in (y, refl, subst P (same_Some w x at) z.0)
zip_at R (w ∷ xs) (y ∷ ys) z (suc k) x at = zip_at R xs ys z.1 k x at

pub zip_back : {A B : Type 0} (R : A → B → Type 0) (xs : List A) (ys : List B) → AllZip R xs ys → (k : ℕ) (y : B) → slice_get ys k ≡ Some y → (x : A) × (slice_get xs k ≡ Some x) × R x y
zip_back R [] [] z k y at = cc
zip_back R [] (w ∷ ys) z k y at = absurd z
zip_back R (x ∷ xs) [] z k y at = absurd z
zip_back R (x ∷ xs) (w ∷ ys) z zero y at = let P : _ → Type 0 = λ v. R x v in (x, refl, subst P (same_Some w y at) z.0)
zip_back R (x ∷ xs) (w ∷ ys) z (suc k) y at = zip_back R xs ys z.1 k y at

-- one more pair behind them
pub zip_push : {A B : Type 0} (R : A → B → Type 0) (xs : List A) (ys : List B) (x : A) (y : B) → AllZip R xs ys → R x y → AllZip R (xs ++ x ∷ []) (ys ++ y ∷ [])
zip_push R [] [] x y z r = (r, tt)
zip_push R [] (v ∷ ys) x y z r = absurd z
zip_push R (v ∷ xs) [] x y z r = absurd z
zip_push R (v ∷ xs) (w ∷ ys) x y z r = (z.0, zip_push R xs ys x y z.1 r)

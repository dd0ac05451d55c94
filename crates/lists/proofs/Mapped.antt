-- What stands in a list that was made of another one, item by item.
use Rattle.std.proofs.Common.{◌≡◌, ℕ, zero, suc, ◌+◌, List, [], ◌∷◌, ◌++◌, Some, Contains, map, slice_get, refl, sym, subst, ap, ◌∙◌, arith}
use Rattle.std.proofs.lemmas.Option.{none-some, same_Some}
use Rattle.std.proofs.lemmas.List.{map-append}
use Rattle.std.proofs.lemmas.List.Concat.{flat_map-cons}
use Rattle.std.proofs.lemmas.List.Elements.{Contains-append_left, Contains-append_right}
use Rattle.std.specs.List.{flat_map, enumerate_from}
use Rattle.std.specs.Option.{option_map}

pub map-map : {X Y Z : Type 0} (f : Y → Z) (g : X → Y) (xs : List X) → map f (map g xs) ≡ map (λ x. f (g x)) xs
map-map f g [] = refl
map-map f g (x ∷ xs) = ap (λ l. f (g x) ∷ l) (map-map f g xs)

-- what stands in it was made of what stands there
pub mapped_at : {X Y : Type 0} (f : X → Y) (xs : List X) (k : ℕ) (y : Y) → slice_get (map f xs) k ≡ Some y → (x : X) × (slice_get xs k ≡ Some x) × (f x ≡ y)
mapped_at f [] k y at = absurd (none-some y at)
mapped_at f (x ∷ xs) zero y at = (x, refl, same_Some (f x) y at)
mapped_at f (x ∷ xs) (suc k) y at = mapped_at f xs k y at

-- an item made of an item and its place
pub enumerated_at : (f : ℕ × ℕ → ℕ) (xs : List ℕ) (k m : ℕ) → slice_get (map f (enumerate_from k xs)) m ≡ option_map (λ x. f (k + m, x)) (slice_get xs m)
enumerated_at f [] k m = refl
enumerated_at f (x ∷ xs) k zero = ap (λ j. Some (f (j, x))) (omega arith)
enumerated_at f (x ∷ xs) k (suc m) = enumerated_at f xs (k + 1) m ∙ ap (λ j. option_map (λ x. f (j, x)) (slice_get xs m)) (omega arith)

-- what one of the items gives is among what all give
pub in_flat : {X Y : Type 0} (F : X → List Y) (xs : List X) (i : ℕ) (x : X) (y : Y) → slice_get xs i ≡ Some x → Contains (F x) y → Contains (flat_map F xs) y
in_flat F [] i x y at h = absurd (none-some x at)
in_flat F (z ∷ xs) zero x y at h = Contains-append_left (F z) (flat_map F xs) y (subst (λ w. Contains (F w) y) (sym (same_Some z x at)) h)
in_flat F (z ∷ xs) (suc i) x y at h = Contains-append_right (F z) (flat_map F xs) y (in_flat F xs i x y at h)

-- what is made of all that the items give, by what is made of each item
pub mapped_flat : {X V Y Z : Type 0} (f : X → V) (g : X → List Y) (p : Y → Z) (h : V → List Z) → ((x : X) → map p (g x) ≡ h (f x)) → (xs : List X) → map p (flat_map g xs) ≡ flat_map h (map f xs)
mapped_flat f g p h by [] = refl
mapped_flat f g p h by (x ∷ xs) =
    ap (map p) (flat_map-cons g x xs) ∙ map-append p (g x) (flat_map g xs) ∙ ap (λ l. l ++ map p (flat_map g xs)) (by x)
    ∙ ap (λ l. h (f x) ++ l) (mapped_flat f g p h by xs) ∙ sym (flat_map-cons h (f x) (map f xs))

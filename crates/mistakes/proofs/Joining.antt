-- Texts that are joined.
use Rattle.std.proofs.Common.{◌≡◌, ◌++◌, List, [], ◌∷◌, ℕ, map, refl, ap}
use Rattle.std.specs.List.{flat_map, join_by}

-- what is joined of items is what is joined of their texts
pub join-map : {X : Type 0} (f : X → List ℕ) (sep : List ℕ) (xs : List X) → join_by f sep xs ≡ join_by (λ (t : List ℕ). t) sep (map f xs)
join-map f sep [] = refl
join-map f sep (x ∷ xs) = ap (λ l. f x ++ l) (rest xs) where
  rest : (ys : List _) → flat_map (λ y. sep ++ f y) ys ≡ flat_map (λ (t : List ℕ). sep ++ t) (map f ys)
  rest [] = refl
  rest (y ∷ ys) = ap (λ l. (sep ++ f y) ++ l) (rest ys)

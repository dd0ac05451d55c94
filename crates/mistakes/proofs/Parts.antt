-- Rows that are put together again.
use Rattle.std.proofs.Common.{◌≡◌, ◌++◌, ◌∙◌, ℕ, List, [], ◌∷◌, ap, drop, map, refl, sym, take}
use Rattle.std.proofs.lemmas.List.{take-map, drop-map}
use Rattle.mistakes.specs.Emptied.{emptied, rows_left}

-- one function behind another
pub map_map : {X : Type 0} (g : List ℕ → List ℕ) (f : X → List ℕ) (xs : List X) → map (λ x. g (f x)) xs ≡ map g (map f xs)
map_map g f [] = refl
map_map g f (x ∷ xs) = ap (λ l. g (f x) ∷ l) (map_map g f xs)

-- the rows before, those that are emptied, and the rows behind
pub parts_left : {X : Type 0} (f : X → List ℕ) (first count column : ℕ) (bare : List ℕ) (rows : List X)
    → map f (take first rows) ++ map (λ x. emptied column bare (f x)) (take count (drop first rows)) ++ map f (drop count (drop first rows))
    ≡ rows_left first count column bare (map f rows)
parts_left f first count column bare rows =
    ap (λ l. l ++ map (λ x. emptied column bare (f x)) (take count (drop first rows)) ++ map f (drop count (drop first rows))) (sym (take-map f first rows))
    ∙ ap (λ l. take first (map f rows) ++ l ++ map f (drop count (drop first rows)))
    (map_map (emptied column bare) f (take count (drop first rows))
    ∙ ap (map (emptied column bare)) (sym (take-map f count (drop first rows)) ∙ ap (take count) (sym (drop-map f first rows))))
    ∙ ap (λ l. take first (map f rows) ++ map (emptied column bare) (take count (drop first (map f rows))) ++ l)
    (sym (drop-map f count (drop first rows)) ∙ ap (drop count) (sym (drop-map f first rows)))

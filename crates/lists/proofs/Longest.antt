-- No list of lists has one that is longer than the longest.
use Rattle.std.proofs.Common.{ℕ, zero, suc, ◌-◌, ◌<◌, ◌≤◌, List, [], ◌∷◌, length, map, get_or, arith}
use Rattle.std.specs.Prelude.{max}
use Rattle.std.specs.List.{fold}

pub fold-max_first : (a : ℕ) (xs : List ℕ) → a ≤ fold max a xs
fold-max_first a [] = omega arith
fold-max_first a (x ∷ xs) = omega (arith, fold-max_first (max a x) xs)

row-below_longest : {X : Type 0} (a : ℕ) (d : List (List X)) (r : ℕ) → length (get_or d r []) ≤ fold max a (map length d)
row-below_longest a [] r = omega arith
row-below_longest a (row ∷ d) zero = omega (arith, fold-max_first (max a (length row)) (map length d))
row-below_longest a (row ∷ d) (suc r) = row-below_longest (max a (length row)) d r

-- what lies within a row lies within the longest
pub row-narrow : {X : Type 0} (d : List (List X)) (r c : ℕ) → c < length (get_or d r []) → c ≤ fold max 0 (map length d) - 1
row-narrow d r c h = omega (arith, row-below_longest 0 d r)

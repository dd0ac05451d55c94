-- Lists in order, and what stands in them.
use Rattle.std.proofs.Common.{◌≡◌, ℕ, zero, suc, ◌<◌, Bool, true, false, cond, List, [], ◌∷◌, length, get_or, map, refl, sym, ap, subst, ◌∙◌, inl, inr, arith}
use Rattle.std.specs.Prelude.{AllPairs, Contains}
use Rattle.std.specs.List.{filter}
use Rattle.std.specs.Cmp.{IsTotalOrder}
use Rattle.std.specs.Ordering.{ordering_reverse}
use Rattle.std.specs.declared.cmp.Ordering.{Ordering}
use Rattle.std.specs.declared.cmp.Ordering.TheVariants.{Less, Equal, Greater}
use Rattle.std.proofs.lemmas.List.{length-map, get_or-map}
use Rattle.std.proofs.lemmas.Cmp.{tied_itself}
use Rattle.lists.proofs.Members.{cons_later, cons_cases, cons_first}
use Rattle.lists.proofs.Pairs.{pairs_head, pairs_tail}

pub contains_map : {X Y : Type 0} (f : X → Y) (xs : List X) (x : X) → Contains xs x → Contains (map f xs) (f x)
contains_map f xs x there = (there.0, simp length-map there.1, get_or-map f xs there.0 x (f x) there.1 ∙ ap f there.2)

filter_at : {X : Type 0} (p : X → Bool) (xs : List X) (k : ℕ) (x : X) → k < length xs → get_or xs k x ≡ x → p x ≡ true → Contains (filter p xs) x
filter_at p [] k x lt is passes = absurd (omega (arith, lt))
filter_at p (y ∷ ys) zero x lt is passes = let here : p y ≡ true = ap p is ∙ passes in rw here (0, omega arith, is)
filter_at p (y ∷ ys) (suc k) x lt is passes =
    let more = filter_at p ys k x (omega (arith, lt)) is passes in
    elim (p y) as (λ b. Contains (cond b (y ∷ filter p ys) (filter p ys)) x) [ true ↦ cons_later y (filter p ys) x more | false ↦ more ]

pub contains_filter : {X : Type 0} (p : X → Bool) (xs : List X) (x : X) → Contains xs x → p x ≡ true → Contains (filter p xs) x
contains_filter p xs x there passes = filter_at p xs there.0 x there.1 there.2 passes

none_here : {X : Type 0} (x : X) → Contains [] x → ⊥
none_here x there = omega (arith, there.1)

-- the first stands before each of the others
after_first : {X : Type 0} (R : X → X → Ordering) (y : X) (ys : List X) (x : X) → AllPairs (λ a b. R a b ≡ Less) (y ∷ ys) → Contains ys x → R y x ≡ Less
after_first R y ys x pairs there = subst (λ z. R y z ≡ Less) there.2 (pairs_head (λ a b. R a b ≡ Less) y ys pairs there.0 x there.1)

not_both : {X : Type 0} (R : X → X → Ordering) → IsTotalOrder R → (x y : X) → R x y ≡ Less → R y x ≡ Less → ⊥
not_both R o x y one other = let flips = o.antisymm x y in let e : Less ≡ Greater = sym one ∙ flips ∙ ap (λ r. ordering_reverse r) other in cc

not_itself : {X : Type 0} (R : X → X → Ordering) → IsTotalOrder R → (x : X) → R x x ≡ Less → ⊥
not_itself R o x less = let e : Less ≡ Equal = sym less ∙ tied_itself o x in cc

same_first : {X : Type 0} (R : X → X → Ordering) → IsTotalOrder R → (x y : X) (xs ys : List X) → AllPairs (λ a b. R a b ≡ Less) (x ∷ xs) → AllPairs (λ a b. R a b ≡ Less) (y ∷ ys)
    → Contains (y ∷ ys) x → Contains (x ∷ xs) y → x ≡ y
same_first R o x y xs ys rising rising' in-ys in-xs =
    elim (cons_cases y ys x in-ys) [
      | inl e ↦ sym e
      | inr later ↦ elim (cons_cases x xs y in-xs) [ inl e ↦ e | inr later' ↦ absurd (not_both R o x y (after_first R x xs y rising later') (after_first R y ys x rising' later)) ]
    ]

rest_in : {X : Type 0} (R : X → X → Ordering) → IsTotalOrder R → (x y : X) (xs ys : List X) → x ≡ y → AllPairs (λ a b. R a b ≡ Less) (x ∷ xs)
    → ((z : X) → Contains (x ∷ xs) z → Contains (y ∷ ys) z) → (z : X) → Contains xs z → Contains ys z
rest_in R o x y xs ys same rising within z there =
    elim (cons_cases y ys z (within z (cons_later x xs z there))) [
      | inl e ↦ absurd (not_itself R o z (subst (λ w. R w z ≡ Less) (same ∙ e) (after_first R x xs z rising there)))
      | inr later ↦ later
    ]

-- rising lists of the same elements are one
pub rising_same : {X : Type 0} (R : X → X → Ordering) → IsTotalOrder R → (xs ys : List X) → AllPairs (λ a b. R a b ≡ Less) xs → AllPairs (λ a b. R a b ≡ Less) ys
    → ((z : X) → Contains xs z → Contains ys z) → ((z : X) → Contains ys z → Contains xs z) → xs ≡ ys
rising_same R o [] [] rising rising' within within' = refl
rising_same R o [] (y ∷ ys) rising rising' within within' = absurd (none_here y (within' y (cons_first y ys)))
rising_same R o (x ∷ xs) [] rising rising' within within' = absurd (none_here x (within x (cons_first x xs)))
rising_same R o (x ∷ xs) (y ∷ ys) rising rising' within within' =
    let same = same_first R o x y xs ys rising rising' (within x (cons_first x xs)) (within' y (cons_first y ys)) in
    let rest = rising_same R o xs ys (pairs_tail (λ a b. R a b ≡ Less) x xs rising) (pairs_tail (λ a b. R a b ≡ Less) y ys rising')
    (rest_in R o x y xs ys same rising within) (rest_in R o y x ys xs (sym same) rising' within') in
    rw (same, rest) refl

-- Lists in one order with the same items are equal.
use Rattle.std.proofs.Common.{◌≡◌, suc, inl, inr, List, [], ◌∷◌, Contains, refl, sym, subst, ◌∙◌, arith}
use Rattle.lists.proofs.Members.{at_contains, cons_first, cons_later, cons_cases}
use Rattle.lists.specs.Rising.{IsRising, IsOneWay}

-- what the one list has, the other has
abbrev pub AreWithin : {X : Type 0} → List X → List X → Type 0
AreWithin {X} xs ys = (x : X) → Contains xs x → Contains ys x

none_here : {X : Type 0} (x : X) → Contains [] x → ⊥
none_here x there = omega (arith, there.1)

rising_rest : {X : Type 0} (R : X → X → Type 0) (x : X) (xs : List X) → IsRising R (x ∷ xs) → IsRising R xs
rising_rest R x xs rising = λ i j a b lt at at'. rising (suc i) (suc j) a b (omega arith) at at'

one_way_rest : {X : Type 0} (R : X → X → Type 0) (x : X) (xs : List X) → IsOneWay R (x ∷ xs) → IsOneWay R xs
one_way_rest R x xs one = λ a b in' also. one a b (cons_later x xs a in') (cons_later x xs b also)

-- the first stands so to each of the others
after_first : {X : Type 0} (R : X → X → Type 0) (x : X) (xs : List X) → IsRising R (x ∷ xs) → (y : X) → Contains xs y → R x y
after_first R x xs rising y there = let at = at_contains xs y there in rising 0 (suc at.0) x y (omega arith) refl at.1

rest_within : {X : Type 0} (R : X → X → Type 0) (x y : X) (xs ys : List X) → x ≡ y → IsRising R (x ∷ xs) → IsOneWay R (x ∷ xs) → AreWithin (x ∷ xs) (y ∷ ys) → AreWithin xs ys
rest_within R x y xs ys same rising one within z there = elim (cons_cases y ys z (within z (cons_later x xs z there))) [
  | inl e ↦
      let itself : R z z = subst (λ w. R w z) (same ∙ e) (after_first R x xs rising z there) in
      absurd (one z z (cons_later x xs z there) (cons_later x xs z there) itself itself)
  | inr later ↦ later
]

pub rising_same : {X : Type 0} (R : X → X → Type 0) (xs ys : List X) → IsRising R xs → IsRising R ys → IsOneWay R xs → AreWithin xs ys → AreWithin ys xs → xs ≡ ys
rising_same R [] [] rising rising' one within within' = refl
rising_same R [] (y ∷ ys) rising rising' one within within' = absurd (none_here y (within' y (cons_first y ys)))
rising_same R (x ∷ xs) [] rising rising' one within within' = absurd (none_here x (within x (cons_first x xs)))
rising_same R (x ∷ xs) (y ∷ ys) rising rising' one within within' =
    let back : IsOneWay R (y ∷ ys) = λ a b in' also. one a b (within' a in') (within' b also) in
    let same : x ≡ y = elim (cons_cases y ys x (within x (cons_first x xs))) [
      | inl e ↦ sym e
      | inr later ↦ elim (cons_cases x xs y (within' y (cons_first y ys))) [
        | inl e ↦ e
        | inr later' ↦ absurd (one x y (cons_first x xs) (cons_later x xs y later') (after_first R x xs rising y later') (after_first R y ys rising' x later))
      ]
    ] in
    let rest = rising_same R xs ys (rising_rest R x xs rising) (rising_rest R y ys rising') (one_way_rest R x xs one) (rest_within R x y xs ys same rising one within) (rest_within R y x ys xs (sym same) rising' back within') in
    rw (same, rest) refl

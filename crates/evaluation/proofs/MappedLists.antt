-- Lists, by their places.
use Rattle.std.proofs.Common.{◌≡◌, ℕ, zero, suc, ◌+◌, ◌<◌, ◌≤◌, ◌≢◌, ◌⊎◌, inl, inr, List, [], ◌∷◌, length, map, slice_get, set, length-set, Option, Some, None, arith, refl, sym, ap, ◌∙◌, subst, Bool, true, false}
use Rattle.std.specs.Bool.{OnTrue}
use Rattle.std.specs.Option.{option_map}
use Rattle.std.proofs.lemmas.Bool.{cases_eq}
use Rattle.std.proofs.lemmas.Option.{slice_get_within, same_Some}
use Rattle.lists.proofs.Places.{element_at, slice_get-set_same, slice_get-set_other}

-- a list mapped is the other, where that is so at each place
pub map_by_each : {X Y : Type 0} (f : X → Y) (xs : List X) (ys : List Y) → length xs ≡ length ys
    → ((k : ℕ) (x : X) (y : Y) → slice_get xs k ≡ Some x → slice_get ys k ≡ Some y → f x ≡ y) → map f xs ≡ ys
map_by_each f [] [] l h = refl
map_by_each f [] (y ∷ ys) l h = absurd (omega arith)
map_by_each f (x ∷ xs) [] l h = absurd (omega arith)
map_by_each f (x ∷ xs) (y ∷ ys) l h =
    let first : f x ≡ y = h 0 x y refl refl in
    let rest : map f xs ≡ ys = map_by_each f xs ys (omega arith) (λ k. h (suc k)) in
    cc

-- and the other way round
pub map_at : {X Y : Type 0} (f : X → Y) (xs : List X) (ys : List Y) → map f xs ≡ ys → (k : ℕ) (x : X) (y : Y) → slice_get xs k ≡ Some x → slice_get ys k ≡ Some y → f x ≡ y
map_at f xs ys e k x y at found = same_Some (f x) y (sym (here xs k at) ∙ ap (λ (l : List _). slice_get l k) e ∙ found)
  where
    here : (zs : List _) (k : ℕ) → slice_get zs k ≡ Some x → slice_get (map f zs) k ≡ Some (f x)
    here [] k h = absurd cc
    here (z ∷ zs) zero h = cc
    here (z ∷ zs) (suc k) h = here zs k h

-- what a mapped option comes from
pub option_map_some : {X Y : Type 0} (f : X → Y) (o : Option X) (y : Y) → option_map f o ≡ Some y → (x : X) × (o ≡ Some x) × (f x ≡ y)
option_map_some f None y e = absurd cc
option_map_some f (Some x) y e = (x, refl, same_Some (f x) y e)

pub option_map_none : {X Y : Type 0} (f : X → Y) (o : Option X) → option_map f o ≡ None → o ≡ None
option_map_none f None e = refl
option_map_none f (Some x) e = absurd cc

pub found_not_none : {X : Type 0} (xs : List X) (k : ℕ) → k < length xs → slice_get xs k ≡ None → ⊥
found_not_none xs k lt e = let found = element_at xs k lt in let some : None ≡ Some found.0 = sym e ∙ found.1 in cc

-- the first n elements of a list were changed as P says, and the others not yet
pub record InPlace {X : Type 0} (P : ℕ → X → X → Type 0) (n : ℕ) (old now : List X) : Type 0 where
  pub many : length now ≡ length old
  pub done : (k : ℕ) (s t : X) → k < n → slice_get old k ≡ Some s → slice_get now k ≡ Some t → P k s t
  pub rest : (k : ℕ) → n ≤ k → slice_get now k ≡ slice_get old k

pub in_place_none : {X : Type 0} (P : ℕ → X → X → Type 0) (xs : List X) → InPlace P 0 xs xs
in_place_none P xs = record { many = refl; done = λ k s t lt. absurd (omega arith); rest = λ k le. refl }

pub in_place_more : {X : Type 0} (P : ℕ → X → X → Type 0) (n : ℕ) (old now : List X) (x y : X) → InPlace P n old now → slice_get now n ≡ Some x → P n x y → InPlace P (n + 1) old (set now n y)
in_place_more {X} P n old now x y h at here = record {
  many = length-set now n y ∙ h.many;
  done = λ k s t lt was is. by k s t lt was is (cases_eq k n);
  rest = λ k le. slice_get-set_other now n k y (λ e. omega arith) ∙ h.rest k (omega arith);
}
  where
    by : (k : ℕ) (s t : X) → k < n + 1 → slice_get old k ≡ Some s → slice_get (set now n y) k ≡ Some t → (k ≡ n) ⊎ (k ≢ n) → P k s t
    by k s t lt was is (inl same) =
        let from : x ≡ s = same_Some x s (sym at ∙ h.rest n (omega arith) ∙ ap (slice_get old) (sym same) ∙ was) in
        let to : y ≡ t = same_Some y t (sym (slice_get-set_same now n y (slice_get_within now n x at)) ∙ ap (slice_get (set now n y)) (sym same) ∙ is) in
        subst (λ (i : ℕ). P i s t) (sym same) (subst (λ v. P n v t) from (subst (λ w. P n x w) to here))
    by k s t lt was is (inr ne) = h.done k s t (omega arith) was (sym (slice_get-set_other now n k y ne) ∙ is)

pub in_place_all : {X : Type 0} (P : ℕ → X → X → Type 0) (n : ℕ) (old now : List X) → InPlace P n old now → n ≡ length old
    → (k : ℕ) (s t : X) → slice_get old k ≡ Some s → slice_get now k ≡ Some t → P k s t
in_place_all P n old now h all k s t was is = h.done k s t (let lt = slice_get_within old k s was in omega arith) was is

pub on_true : (b : Bool) (P : Type 0) → b ≡ true → OnTrue b P → P
on_true true P e h = h
on_true false P e h = absurd cc

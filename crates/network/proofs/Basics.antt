-- Lists, places and cases, as all other files here need them.
use Rattle.std.proofs.Common.{◌≡◌, ℕ, ◌⊎◌, inl, inr, MatchOption, Result, Ok, Err, OnOk, List, Option, Some, None, get_or, set, length-set, map, slice_get, sym, ap, ◌∙◌, arith}
use Rattle.std.proofs.lemmas.Bool.{cases_eq}
use Rattle.std.proofs.lemmas.List.{get_or-set_same, get_or-set_other}
use Rattle.std.proofs.lemmas.Option.{slice_get_within, slice_get-get_or, get_or_from_slice_get, slice_get-map}
use Rattle.std.specs.Option.{option_map}

pub some_is : {A : Type 0} (a b : A) → Some a ≡ Some b → a ≡ b
some_is a b e = cc

-- what stands at one number of a list is one thing
pub one_at : {A : Type 0} (xs : List A) (j k : ℕ) (a b : A) → j ≡ k → slice_get xs j ≡ Some a → slice_get xs k ≡ Some b → a ≡ b
one_at xs j k a b e f h = some_is a b (sym f ∙ ap (slice_get xs) e ∙ h)

pub get_map : {A B : Type 0} (f : A → B) (xs : List A) (k : ℕ) (x : A) → slice_get xs k ≡ Some x → slice_get (map f xs) k ≡ Some (f x)
get_map f xs k x at = slice_get-map f xs k ∙ ap (option_map f) at

-- what a clause by cases says of the case at hand
pub match_some : {A : Type 0} (P : Type 0) (Q : A → Type 0) (o : Option A) (x : A) → o ≡ Some x → MatchOption o P Q → Q x
match_some P Q None x e h = absurd (cc)
match_some P Q (Some y) x e h = rw (← some_is y x e) h

pub match_none : {A : Type 0} (P : Type 0) (Q : A → Type 0) (o : Option A) → o ≡ None → MatchOption o P Q → P
match_none P Q None e h = h
match_none P Q (Some y) e h = absurd (cc)

-- what stands in a list after a write
pub get_set : {A : Type 0} (xs : List A) (i k : ℕ) (x y : A) → slice_get (set xs i x) k ≡ Some y → ((k ≡ i) × (y ≡ x)) ⊎ ((k ≡ i → ⊥) × (slice_get xs k ≡ Some y))
get_set xs i k x y h = elim (cases_eq k i) [
  | inl e ↦ inl (e, sym (get_or_from_slice_get (set xs i x) k y x h) ∙ ap (λ j. get_or (set xs i x) j x) e ∙ get_or-set_same xs i x x (let w = slice_get_within (set xs i x) k y h in let l = length-set xs i x in omega arith))
  | inr ne ↦ inr (
    ne,
    (let w = slice_get_within (set xs i x) k y h in let l = length-set xs i x in
        slice_get-get_or xs k y (omega arith) ∙ ap Some (sym (get_or-set_other xs i k x y ne) ∙ get_or_from_slice_get (set xs i x) k y y h)),
  )
]

-- what follows where a call succeeds
pub on_ok : {T E : Type 0} (r : Result T E) (A B : Type 0) → (A → B) → OnOk r A → OnOk r B
on_ok (Ok x) A B f h = f h
on_ok (Err e) A B f h = tt

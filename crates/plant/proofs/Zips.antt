-- Lists whose items go together, place by place, and what holds of all items.
use Rattle.std.proofs.Common.{◌≡◌, ℕ, zero, suc, ◌+◌, ◌<◌, Bool, true, false, List, [], ◌∷◌, ◌++◌, length, map, take, get_or, Some, inl, inr, refl, sym, ap, ◌∙◌, subst, arith}
use Rattle.std.specs.Borrow.{Bor}
use Rattle.std.specs.Prelude.{slice_get, All}
use Rattle.std.specs.List.{AllZip, filter, flat_map}
use Rattle.std.proofs.lemmas.List.Elements.{All-nil, All-cons, All-append, All-push}
use Rattle.std.specs.Option.{option_map}
use Rattle.std.proofs.lemmas.Option.{slice_get_read, slice_get-map, slice_get_within, get_or_from_slice_get}
use Rattle.plant.specs.Steps.Drafts.{Triples}
use Rattle.std.proofs.lemmas.List.{take_more, map-append, length-map, flat_map_more}
use Rattle.lists.proofs.Members.{all_from_places}
use Rattle.lists.proofs.Places.{push_cases, some_same}
use Rattle.lists.proofs.Zips.{zip_push}

-- what follows of each pair follows of all
pub zip_imply : {A B : Type 0} (R S : A → B → Type 0) → ((x : A) (y : B) → R x y → S x y) → (xs : List A) (ys : List B) → AllZip R xs ys → AllZip S xs ys
zip_imply R S f [] [] z = tt
zip_imply R S f [] (y ∷ ys) z = absurd z
zip_imply R S f (x ∷ xs) [] z = absurd z
zip_imply R S f (x ∷ xs) (y ∷ ys) z = (f x y z.0, zip_imply R S f xs ys z.1)

-- one more pair
pub zip_more : {A B : Type 0} (R : A → B → Type 0) (xs : List A) (n : ℕ) (ys new : List B) (x : A) (y : B) → n < length xs → x ≡ get_or xs n x
    → AllZip R (take n xs) ys → R x y → new ≡ ys ++ y ∷ [] → AllZip R (take (n + 1) xs) new
zip_more R xs n ys new x y lt is z r e =
    let front : take (n + 1) xs ≡ take n xs ++ x ∷ [] = take_more xs n x lt ∙ ap (λ p. take n xs ++ p ∷ []) (sym is) in
    rw (front, e) (zip_push R (take n xs) ys x y z r)

-- one more pair, where the first list is of references
pub zip_more_at : {A B : Type 0} (R : A → B → Type 0) (xs : List (Bor A)) (n : ℕ) (ys new : List B) (x : Bor A) (y : B) → n < length xs → x ≡ get_or xs n x
    → AllZip R (map (λ (p : Bor A). p.now) (take n xs)) ys → R x.now y → new ≡ ys ++ y ∷ [] → AllZip R (map (λ (p : Bor A). p.now) (take (n + 1) xs)) new
zip_more_at R xs n ys new x y lt is z r e =
    let front : take (n + 1) xs ≡ take n xs ++ x ∷ [] = take_more xs n x lt ∙ ap (λ p. take n xs ++ p ∷ []) (sym is) in
    rw (front, e, map-append (λ p. p.now) (take n xs) (x ∷ [])) (zip_push R (map (λ p. p.now) (take n xs)) ys x.now y z r)

-- one more pair, where both lists are images of others
pub zip_more_map : {A B X Y : Type 0} (R : A → B → Type 0) (f : X → A) (g : Y → B) (xs : List X) (n : ℕ) (ys new : List Y) (x : X) (y : Y) → n < length xs → x ≡ get_or xs n x
    → AllZip R (map f (take n xs)) (map g ys) → R (f x) (g y) → new ≡ ys ++ y ∷ [] → AllZip R (map f (take (n + 1) xs)) (map g new)
zip_more_map R f g xs n ys new x y lt is z r e =
    let front : take (n + 1) xs ≡ take n xs ++ x ∷ [] = take_more xs n x lt ∙ ap (λ p. take n xs ++ p ∷ []) (sym is) in
    rw (front, e, map-append f (take n xs) (x ∷ []), map-append g ys (y ∷ [])) (zip_push R (map f (take n xs)) (map g ys) (f x) (g y) z r)

-- one more pair, where the second list is the image of another
pub zip_more_right : {A B Y : Type 0} (R : A → B → Type 0) (g : Y → B) (xs : List A) (n : ℕ) (ys new : List Y) (x : A) (y : Y) → n < length xs → x ≡ get_or xs n x
    → AllZip R (take n xs) (map g ys) → R x (g y) → new ≡ ys ++ y ∷ [] → AllZip R (take (n + 1) xs) (map g new)
zip_more_right R g xs n ys new x y lt is z r e =
    let front : take (n + 1) xs ≡ take n xs ++ x ∷ [] = take_more xs n x lt ∙ ap (λ p. take n xs ++ p ∷ []) (sym is) in
    rw (front, e, map-append g ys (y ∷ [])) (zip_push R (take n xs) (map g ys) x (g y) z r)

-- one more triple
pub triples_push : {A B C : Type 0} (R : A → B → C → Type 0) (xs : List A) (ys : List B) (zs new : List C) (n : ℕ) (x : A) (y : B) (z : C)
    → length zs ≡ n → slice_get xs n ≡ Some x → slice_get ys n ≡ Some y → Triples R xs ys zs → R x y z → new ≡ zs ++ z ∷ [] → Triples R xs ys new
triples_push R xs ys zs new n x y z long at at' before r e k x' y' w h h' h'' =
    elim (push_cases zs z k w (rw e at h'')) [
      | inl old ↦ before k x' y' w h h' old
      | inr last ↦
          let same : k ≡ n = last.0 ∙ long in
          let one : x ≡ x' = some_same (sym at ∙ ap (slice_get xs) (sym same) ∙ h) in
          let two : y ≡ y' = some_same (sym at' ∙ ap (slice_get ys) (sym same) ∙ h') in
          rw (← one, ← two, last.1) r
    ]

-- one more triple, where the third list is the image of another
pub triples_more : {A B C X : Type 0} (R : A → B → C → Type 0) (g : X → C) (xs : List A) (ys : List B) (zs new : List X) (n : ℕ) (x : A) (y : B) (z : X)
    → length zs ≡ n → slice_get xs n ≡ Some x → slice_get ys n ≡ Some y → Triples R xs ys (map g zs) → R x y (g z) → new ≡ zs ++ z ∷ [] → Triples R xs ys (map g new)
triples_more R g xs ys zs new n x y z long at at' before r e =
    triples_push R xs ys (map g zs) (map g new) n x y (g z) (length-map zs g ∙ long) at at' before r (ap (map g) e ∙ map-append g zs (z ∷ []))

-- what a reference of a list points to
pub ref_at : {A : Type 0} (xs : List (Bor A)) (n : ℕ) (x : Bor A) → n < length xs → x ≡ get_or xs n x → slice_get (map (λ (p : Bor A). p.now) xs) n ≡ Some x.now
ref_at xs n x lt is = slice_get-map (λ p. p.now) xs n ∙ ap (option_map (λ p. p.now)) (slice_get_read xs (length xs) n x refl lt is)

pub at_itself : {A : Type 0} (xs : List A) (n : ℕ) (d : A) → n < length xs → get_or xs n d ≡ get_or xs n (get_or xs n d)
at_itself [] n d lt = absurd (omega arith)
at_itself (x ∷ xs) zero d lt = refl
at_itself (x ∷ xs) (suc n) d lt = at_itself xs n d (omega arith)

-- lists of one length have items at the same places
pub item_at : {A B : Type 0} (xs : List A) (ys : List B) → length xs ≡ length ys → (k : ℕ) (y : B) → slice_get ys k ≡ Some y → (x : A) × (slice_get xs k ≡ Some x)
item_at [] [] e k y at = cc
item_at [] (y' ∷ ys) e k y at = absurd (omega arith)
item_at (x ∷ xs) [] e k y at = cc
item_at (x ∷ xs) (y' ∷ ys) e zero y at = (x, refl)
item_at (x ∷ xs) (y' ∷ ys) e (suc k) y at = item_at xs ys (omega arith) k y at

pub all_at : {A : Type 0} (P : A → Type 0) (xs : List A) → All P xs → (k : ℕ) (x : A) → slice_get xs k ≡ Some x → P x
all_at P xs h k x at = subst P (get_or_from_slice_get xs k x x at) (h k x (slice_get_within xs k x at))

-- what holds of all holds of those that pass a test
pub all_filter : {A : Type 0} (P : A → Type 0) (p : A → Bool) (xs : List A) → All P xs → All P (filter p xs)
all_filter P p [] h = All-nil P
all_filter P p (x ∷ xs) h = by (p x) refl (all_filter P p xs (all_from_places P xs (λ k y at. all_at P (x ∷ xs) h (suc k) y at)))
  where
    by : (b : Bool) → p x ≡ b → All P (filter p xs) → All P (filter p (x ∷ xs))
    by true e rest = rw e (All-cons P x (filter p xs) (all_at P (x ∷ xs) h 0 x refl) rest)
    by false e rest = rw e rest

-- what holds of the parts of the first items holds of those of one more
pub all_flat_more : {A B : Type 0} (P : B → Type 0) (f : A → List B) (xs : List A) (n : ℕ) (x : A) → n < length xs → x ≡ get_or xs n x
    → All P (flat_map f (take n xs)) → All P (f x) → All P (flat_map f (take (n + 1) xs))
all_flat_more P f xs n x lt is before last =
    let front : take (n + 1) xs ≡ take n xs ++ x ∷ [] = take_more xs n x lt ∙ ap (λ p. take n xs ++ p ∷ []) (sym is) in
    let flat : flat_map f (take (n + 1) xs) ≡ flat_map f (take n xs) ++ f x = ap (flat_map f) front ∙ sym (flat_map_more f [] (take n xs) x) in
    rw flat (All-append P (flat_map f (take n xs)) (f x) before last)

-- what holds of the first items holds of one more
pub all_next : {A : Type 0} (P : A → Type 0) (xs : List A) (n : ℕ) (x : A) → n < length xs → x ≡ get_or xs n x → All P (take n xs) → P x → All P (take (n + 1) xs)
all_next P xs n x lt is before last =
    let front : take (n + 1) xs ≡ take n xs ++ x ∷ [] = take_more xs n x lt ∙ ap (λ p. take n xs ++ p ∷ []) (sym is) in
    rw front (All-push P (take n xs) x before last)

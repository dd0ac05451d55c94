-- One item of a list of whose items something holds, and what is found among them.
use Rattle.std.proofs.Common.{◌≡◌, ℕ, ◌<◌, ◌++◌, arith, zero, suc, Bool, true, false, IsTrue, List, [], ◌∷◌, Some, None, length, get_or, refl, sym, ◌∙◌, subst}
use Rattle.std.specs.Borrow.{Bor}
use Rattle.std.specs.Prelude.{slice_get, All, Any}
use Rattle.std.specs.List.{flat_map, find}
use Rattle.std.proofs.lemmas.Option.{slice_get_read, slice_get_within}
use Rattle.lists.proofs.Places.{some_same}
use Rattle.lists.proofs.Members.{any_at, any_found}
use Rattle.plant_grammar.specs.declared.grammar.tree.Use.{Use}
use Rattle.plant_grammar.specs.Names.{is_named, IsAt}
use Rattle.plant.specs.ProgramTypes.{TypeValue}
use Rattle.plant.specs.Steps.Drafts.{seen, IsTypeKnown}
use Rattle.plant.proofs.FirstMentions.{flat_all}
use Rattle.plant.proofs.Zips.{all_at, ref_at}

pub one_of : {A : Type 0} (P : A → Type 0) (xs : List A) (n : ℕ) (x : A) → n < length xs → x ≡ get_or xs n x → All P xs → P x
one_of P xs n x lt is all = all_at P xs all n x (slice_get_read xs (length xs) n x refl lt is)

pub one_seen : {A : Type 0} (P : A → Type 0) (xs : List (Bor A)) (n : ℕ) (x : Bor A) → n < length xs → x ≡ get_or xs n x → All P (seen xs) → P x.now
one_seen P xs n x lt is all = all_at P (seen xs) all n x.now (ref_at xs n x lt is)

pub part_of : {A B : Type 0} (P : B → Type 0) (f : A → List B) (xs : List A) (n : ℕ) (x : A) → n < length xs → x ≡ get_or xs n x → All P (flat_map f xs) → All P (f x)
part_of P f xs n x lt is all = one_of (λ y. All P (f y)) xs n x lt is (flat_all P f xs all)

pub first_found : {A : Type 0} (p : A → Bool) (xs : List A) (k : ℕ) (x : A) → slice_get xs k ≡ Some x → IsTrue (p x) → (y : A) × (find p xs ≡ Some y)
first_found p [] k x at passes = cc
first_found {A} p (z ∷ zs) zero x at passes = let here : p z ≡ true = subst (λ (y : A). p y ≡ true) (sym (some_same at)) passes in (z, rw here refl)
first_found {A} p (z ∷ zs) (suc k) x at passes = by (p z) refl (first_found p zs k x at passes)
  where
    by : (b : Bool) → p z ≡ b → (y : A) × (find p zs ≡ Some y) → (y : A) × (find p (z ∷ zs) ≡ Some y)
    by true e rest = (z, rw e refl)
    by false e rest = (rest.0, rw e rest.1)

-- a type that is known is found
pub type_found : (types : List TypeValue) (u : Use) → IsTypeKnown types u → find (λ (t : TypeValue). is_named u.program t.program.name) types ≡ None → ⊥
type_found types u known none =
    let at = any_found (λ (t : TypeValue). IsTrue (is_named u.program t.program.name)) types known in
    let found = first_found (λ (t : TypeValue). is_named u.program t.program.name) types at.0 at.1 at.2 at.3 in
    let some = found.1 in
    cc

-- what is read at a place where something stands
pub read_item : {A : Type 0} (xs : List A) (k : ℕ) (x y : A) → slice_get xs k ≡ Some x → y ≡ get_or xs k y → slice_get xs k ≡ Some y
read_item xs k x y at is = slice_get_read xs (length xs) k y refl (slice_get_within xs k x at) is

pub read_at : {A : Type 0} (f : A → List ℕ) (xs : List A) (n : List ℕ) (k : ℕ) (x y : A) → IsAt f xs n k x → y ≡ get_or xs k y → IsAt f xs n k y
read_at {A} f xs n k x y at is =
    let there = read_item xs k x y at.stands is in
    record { stands = there; named = subst (λ (z : A). IsTrue (is_named n (f z))) (some_same (sym at.stands ∙ there)) at.named }

-- one item of a list
pub one_some : {A : Type 0} (P : A → Type 0) (xs : List A) (n : ℕ) (x : A) → n < length xs → x ≡ get_or xs n x → P x → Any P xs
one_some P xs n x lt is holds = any_at P xs n x (slice_get_read xs (length xs) n x refl lt is) holds

any_front : {A : Type 0} (P : A → Type 0) (xs ys : List A) → Any P xs → Any P (xs ++ ys)
any_front P [] ys (k, x, lt, at, h) = absurd (omega (arith, lt))
any_front P (z ∷ zs) ys (zero, x, lt, at, h) = (0, x, omega arith, at, h)
any_front P (z ∷ zs) ys (suc k, x, lt, at, h) = let r = any_front P zs ys (k, x, omega (arith, lt), at, h) in (suc r.0, r.1, omega (arith, r.2), r.3, r.4)

any_behind : {A : Type 0} (P : A → Type 0) (xs ys : List A) → Any P ys → Any P (xs ++ ys)
any_behind P [] ys any = any
any_behind P (z ∷ zs) ys any = let r = any_behind P zs ys any in (suc r.0, r.1, omega (arith, r.2), r.3, r.4)

any_flat : {A B : Type 0} (P : B → Type 0) (f : A → List B) (xs : List A) (k : ℕ) (x : A) → slice_get xs k ≡ Some x → Any P (f x) → Any P (flat_map f xs)
any_flat P f [] k x at any = cc
any_flat P f (z ∷ zs) zero x at any = any_front P (f z) (flat_map f zs) (subst (λ y. Any P (f y)) (sym (some_same at)) any)
any_flat P f (z ∷ zs) (suc k) x at any = any_behind P (f z) (flat_map f zs) (any_flat P f zs k x at any)

-- one of what an item of a list has
pub part_some : {A B : Type 0} (P : B → Type 0) (f : A → List B) (xs : List A) (n : ℕ) (x : A) → n < length xs → x ≡ get_or xs n x → Any P (f x) → Any P (flat_map f xs)
part_some P f xs n x lt is any = any_flat P f xs n x (slice_get_read xs (length xs) n x refl lt is) any

-- Names that are put behind others.
use Rattle.std.proofs.Common.{◌≡◌, ℕ, zero, suc, ◌+◌, ◌<◌, ◌++◌, List, [], ◌∷◌, Some, length, map, take, get_or, refl, sym, ap, ◌∙◌, append_assoc, inl, inr, arith}
use Rattle.std.specs.List.{flat_map, range_with_len, slice_get}
use Rattle.std.proofs.lemmas.List.{map_push, take_more}
use Rattle.std.proofs.lemmas.Option.{slice_get_cases}
use Rattle.std.specs.Option.{unwrap_or}
use Rattle.declared_names.specs.declared.declarations.Declaration.{Declaration}
use Rattle.network.specs.Links.{Diagram}
use Rattle.drawings.specs.declared.place.Place.{Place}
use Rattle.power_flow.specs.declared.steps.circuit.Circuit.{Circuit}
use Rattle.power_flow.specs.Steps.Circuit.{circuit_diagram}
use Rattle.certified_claims.specs.BitNames.{declared_bits, memory_bits}

-- one more
pub pushed : {A B : Type 0} (f : A → B) (old new : List A) (x : A) (y : B) → new ≡ old ++ x ∷ [] → f x ≡ y → map f new ≡ map f old ++ y ∷ []
pushed f old new x y is same = ap (map f) is ∙ map_push f old x ∙ ap (λ z. map f old ++ z ∷ []) same

-- some, and some more
pub two_more : {B : Type 0} (a b c x y : List B) → b ≡ a ++ x → c ≡ b ++ y → c ≡ a ++ (x ++ y)
two_more a b c x y one two = two ∙ ap (λ l. l ++ y) one ∙ append_assoc a x y

-- two, and some more
pub three_more : {B : Type 0} (a b c d : List B) (x y : B) (z : List B) → b ≡ a ++ x ∷ [] → c ≡ b ++ y ∷ [] → d ≡ c ++ z → d ≡ a ++ (x ∷ y ∷ z)
three_more a b c d x y z one two three = three ∙ ap (λ l. l ++ z) (two_more a b c (x ∷ []) (y ∷ []) one two) ∙ append_assoc a (x ∷ y ∷ []) z

-- a number is the last of one more
pub range-suc : (n a : ℕ) → range_with_len a (suc n) ≡ range_with_len a n ++ (a + n) ∷ []
range-suc zero a = let e : a ≡ a + 0 = omega arith in ap (λ x. x ∷ []) e
range-suc (suc n) a = let e : a + 1 + n ≡ a + suc n = omega arith in ap (λ l. a ∷ l) (range-suc n (a + 1) ∙ ap (λ x. range_with_len (a + 1) n ++ x ∷ []) e)

-- a number of a range, by its text
pub digit_more : {B : Type 0} (f : ℕ → B) (a b c : List B) (k : ℕ) → b ≡ a ++ map f (range_with_len 0 k) → c ≡ b ++ f k ∷ [] → c ≡ a ++ map f (range_with_len 0 (k + 1))
digit_more f a b c k one two =
    let e : 0 + k ≡ k = omega arith in
    let s : suc k ≡ k + 1 = omega arith in
    two_more a b c (map f (range_with_len 0 k)) (f k ∷ []) one two
    ∙ ap (λ l. a ++ l) (sym (map_push f (range_with_len 0 k) k) ∙ ap (λ x. map f (range_with_len 0 k ++ x ∷ [])) (sym e) ∙ ap (map f) (sym (range-suc k 0)) ∙ ap (λ n. map f (range_with_len 0 n)) s)

-- those of one more element
pub mapped_more : {A B : Type 0} (f : A → B) (xs : List A) (a b c : List B) (i : ℕ) (d : A) (y : B) → i < length xs → y ≡ f (get_or xs i d) → b ≡ a ++ map f (take i xs) → c ≡ b ++ y ∷ []
    → c ≡ a ++ map f (take (i + 1) xs)
mapped_more f xs a b c i d y lt is one two =
    two_more a b c (map f (take i xs)) (y ∷ []) one two
    ∙ ap (λ l. a ++ l) (ap (λ z. map f (take i xs) ++ z ∷ []) is ∙ sym (map_push f (take i xs) (get_or xs i d)) ∙ ap (map f) (sym (take_more xs i d lt)))

-- those of one more list
flat-push : {A B : Type 0} (f : A → List B) (xs : List A) (x : A) → flat_map f (xs ++ x ∷ []) ≡ flat_map f xs ++ f x
flat-push f [] x = nil (f x)
  where
    nil : {B : Type 0} (l : List B) → l ++ [] ≡ l
    nil [] = refl
    nil (y ∷ l) = ap (λ m. y ∷ m) (nil l)
flat-push f (y ∷ xs) x = ap (λ l. f y ++ l) (flat-push f xs x) ∙ sym (append_assoc (f y) (flat_map f xs) (f x))

pub flat_more : {A B : Type 0} (f : A → List B) (xs : List A) (a b c : List B) (i : ℕ) (d : A) → i < length xs → b ≡ a ++ flat_map f (take i xs) → c ≡ b ++ f (get_or xs i d)
    → c ≡ a ++ flat_map f (take (i + 1) xs)
flat_more f xs a b c i d lt one two =
    two_more a b c (flat_map f (take i xs)) (f (get_or xs i d)) one two
    ∙ ap (λ l. a ++ l) (sym (flat-push f (take i xs) (get_or xs i d)) ∙ ap (flat_map f) (sym (take_more xs i d lt)))

-- the memories of circuits are those of their networks
pub memories_of : (rails : List Place) (circuits : List Circuit)
    → flat_map (λ (n : Diagram). flat_map memory_bits n.elements) (map (circuit_diagram rails) circuits) ≡ flat_map (λ (c : Circuit). flat_map memory_bits c.elements.items) circuits
memories_of rails [] = refl
memories_of rails (c ∷ circuits) = ap (λ l. flat_map memory_bits c.elements.items ++ l) (memories_of rails circuits)

-- what is there is one
pub same_some : {A : Type 0} (x y : A) → Some x ≡ Some y → x ≡ y
same_some x y is = ap (λ o. unwrap_or o x) is

-- those of one more name that is declared
pub declared_more : (ds : List Declaration) (b c : List (List ℕ)) (i : ℕ) → i < length ds → b ≡ flat_map (λ (d : Declaration). declared_bits d.name d.declared) (take i ds)
    → ((d : Declaration) → slice_get ds i ≡ Some d → c ≡ b ++ declared_bits d.name d.declared) → c ≡ flat_map (λ (d : Declaration). declared_bits d.name d.declared) (take (i + 1) ds)
declared_more ds b c i lt one two =
    let names = λ (d : Declaration). declared_bits d.name d.declared in
    elim ((slice_get_cases ds i).1) [
      | inl w ↦ flat_more names ds [] b c i w.0 lt one (two w.0 w.2 ∙ ap (λ (d : Declaration). b ++ names d) (sym w.3))
      | inr w ↦ absurd (let out = w.0 in omega (arith, lt, out))
    ]

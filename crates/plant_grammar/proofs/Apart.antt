-- Names that are apart, and lists of lists.
use Rattle.std.proofs.Common.{◌≡◌, ℕ, ◌-◌, ◌≤◌, ◌<◌, ◌++◌, ◌||◌, ◌↔◌, Bool, IsTrue, inl, inr, List, [], ◌∷◌, length, map, get_or, refl, sym, ap, ◌∙◌, subst, arith}
use Rattle.std.proofs.Math.Seq.{get_or-append_right}
use Rattle.std.proofs.lemmas.List.{get_or-map, get_or_append_left, length-append, length-map, map-append, get_or_default}
use Rattle.std.proofs.lemmas.List.Folds.{Any-from_list_any, list_any-from_Any, list_any-append}
use Rattle.std.proofs.lemmas.List.Concat.{flat_map-cons}
use Rattle.std.proofs.lemmas.Bool.{cases_lt}
use Rattle.std.specs.Prelude.{Any}
use Rattle.std.specs.List.{flat_map, list_any}
use Rattle.plant_grammar.specs.Steps.SameNames.{named_back}
use Rattle.plant_grammar.specs.Names.{is_named, AreNamesApart}
use Rattle.plant_grammar.specs.Steps.NamesRead.{IsNew}

pub list_any-map : {A B : Type 0} (f : A → B) (p : B → Bool) (xs : List A) → list_any p (map f xs) ≡ list_any (λ x. p (f x)) xs
list_any-map f p [] = refl
list_any-map f p (x ∷ xs) = ap (λ b. p (f x) || b) (list_any-map f p xs)

apart_push : {A : Type 0} (f : A → List ℕ) (xs : List A) (y : A) → AreNamesApart (map f xs) → IsNew f xs (f y) → AreNamesApart (map f xs ++ f y ∷ [])
apart_push f xs y apart new j k d within inside same =
    let long = length-append (map f xs) (f y ∷ []) in
    let names-long = length-map xs f in
    elim (cases_lt j (length xs)) [
      | inl early ↦ elim (cases_lt k (length xs)) [
        | inl also ↦ apart j k d (omega arith) (omega arith) (rw (get_or_append_left (map f xs) (f y ∷ []) d j (omega arith), get_or_append_left (map f xs) (f y ∷ []) d k (omega arith)) at same)
        | inr late ↦ absurd (new (found j k early late inside (named_back (get_or (map f xs ++ f y ∷ []) j d) (get_or (map f xs ++ f y ∷ []) k d) same)))
      ]
      | inr late ↦ elim (cases_lt k (length xs)) [
        | inl early ↦ absurd (new (found k j early late within same))
        | inr also ↦ omega arith
      ]
    ]
  where
    found : (i l : ℕ) → i < length xs → length xs ≤ l → l < length (map f xs ++ f y ∷ []) → IsTrue (is_named (get_or (map f xs ++ f y ∷ []) l d) (get_or (map f xs ++ f y ∷ []) i d))
        → Any (λ x. IsTrue (is_named (f y) (f x))) xs
    found i l early late inside' same' =
        let long = length-append (map f xs) (f y ∷ []) in
        let names-long = length-map xs f in
        let last : l - length (map f xs) ≡ 0 = omega arith in
        let right : get_or (map f xs ++ f y ∷ []) l d ≡ f y = get_or-append_right (map f xs) (f y ∷ []) l d (omega arith) ∙ ap (λ m. get_or (f y ∷ []) m d) last in
        let left : get_or (map f xs ++ f y ∷ []) i d ≡ f (get_or xs i y) = get_or_append_left (map f xs) (f y ∷ []) d i (omega arith) ∙ get_or-map f xs i y d early in
        (i, get_or xs i y, early, get_or_default xs i (get_or xs i y) y early, rw (left, right) at same')

-- a new name keeps the names apart
pub apart_more : {A : Type 0} (f : A → List ℕ) (xs ys : List A) (y : A) → ys ≡ xs ++ y ∷ [] → AreNamesApart (map f xs) → IsNew f xs (f y) → AreNamesApart (map f ys)
apart_more f xs ys y e apart new = subst (λ zs. AreNamesApart (map f zs)) (sym e) (subst AreNamesApart (sym (map-append f xs (y ∷ []))) (apart_push f xs y apart new))

pub apart_none : AreNamesApart []
apart_none j k d within inside same = absurd (omega (arith, within))

pub any_with : {A : Type 0} (P Q : A → Type 0) (xs : List A) → ((x : A) → P x → Q x) → Any P xs → Any Q xs
any_with P Q xs h (k, x, lt, is, held) = (k, x, lt, is, h x held)

list_any-flat_map : {A B : Type 0} (f : A → List B) (p : B → Bool) (xs : List A) → list_any p (flat_map f xs) ≡ list_any (λ x. list_any p (f x)) xs
list_any-flat_map f p [] = refl
list_any-flat_map f p (x ∷ xs) = ap (λ bs. list_any p bs) (flat_map-cons f x xs) ∙ list_any-append p (f x) (flat_map f xs) ∙ ap (λ b. list_any p (f x) || b) (list_any-flat_map f p xs)

-- something stands in one of the pieces, or in their sum
pub any_among : {A B : Type 0} (f : A → List B) (p : B → Bool) (xs : List A) → Any (λ x. Any (λ b. IsTrue (p b)) (f x)) xs ↔ Any (λ b. IsTrue (p b)) (flat_map f xs)
any_among f p xs = (
  (λ some. Any-from_list_any p (flat_map f xs) (list_any-flat_map f p xs ∙ list_any-from_Any (λ x. list_any p (f x)) xs (any_with _ _ xs (λ x h. list_any-from_Any p (f x) h) some))),
  (λ some. any_with _ _ xs (λ x h. Any-from_list_any p (f x) h) (Any-from_list_any (λ x. list_any p (f x)) xs (sym (list_any-flat_map f p xs) ∙ list_any-from_Any p (flat_map f xs) some))),
)

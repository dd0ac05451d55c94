-- Names in either case.
use Rattle.std.proofs.Common.{◌≡◌, ℕ, ◌+◌, ◌<◌, inl, inr, List, [], length, map, get_or, refl, sym, ap, ◌∙◌, subst, arith, IsTrue, Some}
use Rattle.std.specs.Str.{str_eq_ignore_ascii_case, str_to_ascii_lowercase}
use Rattle.std.proofs.lemmas.Bool.{cases_lt}
use Rattle.std.proofs.lemmas.Slice.Eq.{bytes_eq-Decides}
use Rattle.std.proofs.lemmas.List.Quantifiers.{position-Some}
use Rattle.std.proofs.lemmas.Option.{slice_get_read, slice_get-get_or, slice_get-map, get_or_from_slice_get}
use Rattle.declared_names.specs.declared.declarations.Kind.TheVariants as kind
use Rattle.declared_names.specs.declared.declarations.Declared.TheVariants as declared
use Rattle.declared_names.specs.declared.declarations.Declaration.{Declaration}
use Rattle.declared_names.specs.Names.{place_of}
use Rattle.plant_grammar.specs.Names.{is_named, IsAt}

pub same_letters : (a b : List ℕ) → IsTrue (is_named a b) → str_to_ascii_lowercase a ≡ str_to_ascii_lowercase b
same_letters a b e = (bytes_eq-Decides (str_to_ascii_lowercase a) (str_to_ascii_lowercase b)).0 e

pub named_alike : (a b : List ℕ) → str_to_ascii_lowercase a ≡ str_to_ascii_lowercase b → IsTrue (is_named a b)
named_alike a b e = (bytes_eq-Decides (str_to_ascii_lowercase a) (str_to_ascii_lowercase b)).1 e

-- x is the k-th element, and has the name
pub at_index : {A : Type 0} (name_of : A → List ℕ) (xs : List A) (name : List ℕ) (k : ℕ) (x : A) → k < length xs → x ≡ get_or xs k x → IsTrue (is_named name (name_of x)) → IsAt name_of xs name k x
at_index name_of xs name k x lt is e = record { stands = slice_get_read xs (length xs) k x refl lt is; named = e }

pub at_map : {A B : Type 0} (f : A → B) (name_of : B → List ℕ) (xs : List A) (name : List ℕ) (k : ℕ) (x : A)
    → k < length xs → x ≡ get_or xs k x → IsTrue (is_named name (name_of (f x))) → IsAt name_of (map f xs) name k (f x)
at_map f name_of xs name k x lt is e = record { stands = rw (slice_get-map f xs k, slice_get_read xs (length xs) k x refl lt is); named = e }

any_declaration : Declaration
any_declaration = record { name = []; declared = declared.Input kind.Bool }

-- what is declared at the place of a name has the name
pub at_place : (ds : List Declaration) (name : List ℕ) (k : ℕ) → place_of ds name ≡ Some k → (v : Declaration) × IsAt (λ (v : Declaration). v.name) ds name k v
unfolding place_of
at_place ds name k e =
    let found = position-Some (λ (v : Declaration). str_eq_ignore_ascii_case v.name name) ds k any_declaration e in
    let v = get_or ds k any_declaration in
    (v, record { stands = slice_get-get_or ds k any_declaration found.0; named = named_alike name v.name (sym (same_letters v.name name found.1)) })

-- names of one place are one name
pub one_name : (ds : List Declaration) (a b : List ℕ) (k : ℕ) → place_of ds a ≡ Some k → place_of ds b ≡ Some k → IsTrue (is_named a b)
one_name ds a b k one other =
    let v = at_place ds a k one in
    let w = at_place ds b k other in
    let e = v.1.stands in
    let f = w.1.stands in
    let same : v.0 ≡ w.0 = cc in
    named_alike a b (same_letters a v.0.name v.1.named ∙ ap (λ (d : Declaration). str_to_ascii_lowercase d.name) same ∙ sym (same_letters b w.0.name w.1.named))

-- one more element that hasn't the name
pub none_more : {A : Type 0} (name_of : A → List ℕ) (xs : List A) (name : List ℕ) (n : ℕ) (x : A) → x ≡ get_or xs n x → (IsTrue (is_named name (name_of x)) → ⊥)
    → ((k : ℕ) (y : A) → k < n → IsAt name_of xs name k y → ⊥) → (k : ℕ) (y : A) → k < n + 1 → IsAt name_of xs name k y → ⊥
none_more {A = A} name_of xs name n x is other before k y lt at =
    elim (cases_lt k n) [
      | inl less ↦ before k y less at
      | inr more ↦
          let here : k ≡ n = omega arith in
          let one : get_or xs k x ≡ y = get_or_from_slice_get xs k y x at.stands in
          let two : x ≡ y = is ∙ ap (λ (i : ℕ). get_or xs i x) (sym here) ∙ one in
          other (subst (λ (z : A). IsTrue (is_named name (name_of z))) (sym two) at.named)
    ]

-- The places of declared names.
use Rattle.std.proofs.Common.{◌≡◌, ℕ, ◌<◌, Bool, true, false, cond, ltb, List, [], ◌∷◌, length, get_or, slice_get, Option, None, Some, is_some, IsTrue, ◌↔◌, refl, sym, ap, ◌∙◌, inl, inr, arith}
use Rattle.std.specs.List.{position_or_len}
use Rattle.std.specs.Str.{str_eq_ignore_ascii_case, str_to_ascii_lowercase}
use Rattle.std.proofs.lemmas.Bool.{cases_lt}
use Rattle.std.proofs.lemmas.List.{get_or_default}
use Rattle.std.proofs.lemmas.Bool.Decides.{nat_tests, same_from_decides}
use Rattle.std.proofs.lemmas.Slice.Eq.{bytes_eq-Decides}
use Rattle.std.proofs.lemmas.List.Sums.{position_or_len_is, fails_before_first, passes_at_first}
use Rattle.declared_names.specs.declared.declarations.Declaration.{Declaration}
use Rattle.declared_names.specs.Names.{place_of, IsDeclared}
use Rattle.std.proofs.lemmas.Option.{get_or_from_slice_get, slice_get-get_or}

-- whether a declaration has the name
abbrev pub has_name : List ℕ → Declaration → Bool
has_name name d = str_eq_ignore_ascii_case d.name name

-- the first of the list with the name is its place
pub place_is : (ds : List Declaration) (name : List ℕ) (i : ℕ) → i < length ds
    → ((k : ℕ) (d : Declaration) → k < i → has_name name (get_or ds k d) ≡ false)
    → ((d : Declaration) → has_name name (get_or ds i d) ≡ true) → place_of ds name ≡ Some i
unfolding place_of
place_is [] name i lt before here = absurd (omega arith)
place_is (x ∷ ds) name i lt before here =
    let n = length (x ∷ ds) in
    let at : position_or_len (has_name name) (x ∷ ds) ≡ i =
    position_or_len_is (has_name name) (x ∷ ds) i x (omega arith) (λ k h. before k x h) (λ h. here x) in
    let inside : ltb i n ≡ true = grind (arith, nat_tests) in
    ap (λ k. cond (ltb k n) (Some k) None) at ∙ ap (λ b. cond b (Some i) None) inside

-- a name that no declaration has
pub place_none : (ds : List Declaration) (name : List ℕ)
    → ((k : ℕ) (d : Declaration) → k < length ds → has_name name (get_or ds k d) ≡ false) → place_of ds name ≡ None
unfolding place_of
place_none [] name h = refl
place_none (x ∷ ds) name h =
    let n = length (x ∷ ds) in
    let at : position_or_len (has_name name) (x ∷ ds) ≡ n =
    position_or_len_is (has_name name) (x ∷ ds) n x (omega arith) (λ k lt. h k x lt) (λ lt. absurd (omega arith)) in
    let outside : ltb n n ≡ false = grind (arith, nat_tests) in
    ap (λ k. cond (ltb k n) (Some k) None) at ∙ ap (λ b. cond b (Some n) None) outside

-- what holds at a place of a name
pub place_at : (ds : List Declaration) (name : List ℕ) (i : ℕ) (e : Declaration) → place_of ds name ≡ Some i
    → (i < length ds) × (has_name name (get_or ds i e) ≡ true) × ((k : ℕ) (d : Declaration) → k < i → has_name name (get_or ds k d) ≡ false)
unfolding place_of
place_at ds name i e at =
    elim (cases_lt (position_or_len (has_name name) ds) (length ds)) [
      | inl lt ↦
          let inside : ltb (position_or_len (has_name name) ds) (length ds) ≡ true = grind (arith, nat_tests) in
          let same : Some (position_or_len (has_name name) ds) ≡ Some i = ap (λ b. cond b (Some (position_or_len (has_name name) ds)) None) (sym inside) ∙ at in
          let is : position_or_len (has_name name) ds ≡ i = cc in
          (omega arith, rw (sym is) (passes_at_first (has_name name) ds e lt), λ k d h. fails_before_first (has_name name) ds k d (omega arith))
      | inr ge ↦
          let outside : ltb (position_or_len (has_name name) ds) (length ds) ≡ false = grind (arith, nat_tests) in
          let none : None ≡ Some i = ap (λ b. cond b (Some (position_or_len (has_name name) ds)) None) (sym outside) ∙ at in
          absurd cc
    ]

-- a declared name has a place, and only such a name has one
pub declared_place : (ds : List Declaration) (name : List ℕ) → IsDeclared ds name → place_of ds name ≡ None → ⊥
unfolding place_of
declared_place ds name (k, x, lt, is, same) none =
    elim (cases_lt (position_or_len (has_name name) ds) (length ds)) [
      | inl inside ↦
          let yes : ltb (position_or_len (has_name name) ds) (length ds) ≡ true = grind (arith, nat_tests) in
          let at : Some (position_or_len (has_name name) ds) ≡ None = ap (λ b. cond b (Some (position_or_len (has_name name) ds)) None) (sym yes) ∙ none in
          cc
      | inr ge ↦
          let fails = fails_before_first (has_name name) ds k x (omega arith) in
          let holds : has_name name (get_or ds k x) ≡ true = ap (has_name name) is ∙ same in
          cc
    ]

pub place_declared : (ds : List Declaration) (name : List ℕ) (i : ℕ) → place_of ds name ≡ Some i → IsDeclared ds name
unfolding place_of
place_declared [] name i at = absurd cc
place_declared (x ∷ ds) name i at =
    let found = place_at (x ∷ ds) name i x at in
    let there = get_or (x ∷ ds) i x in
    (i, there, found.0, get_or_default (x ∷ ds) i there x found.0, found.1)

-- what an index finds has the name, or not
pub named_at : (ds : List Declaration) (i : ℕ) (e : Declaration) (name : List ℕ) (b : Bool) → slice_get ds i ≡ Some e
    → IsTrue b ↔ (str_to_ascii_lowercase e.name ≡ str_to_ascii_lowercase name) → (d : Declaration) → b ≡ has_name name (get_or ds i d)
named_at ds i e name b found test d =
    same_from_decides b (has_name name e) test (bytes_eq-Decides (str_to_ascii_lowercase e.name) (str_to_ascii_lowercase name))
    ∙ ap (has_name name) (sym (get_or_from_slice_get ds i e d found))

pub slice_get_none : (ds : List Declaration) (i : ℕ) → i < length ds → slice_get ds i ≡ None → ⊥
slice_get_none [] i lt none = omega arith
slice_get_none (x ∷ ds) i lt none = let some = slice_get-get_or (x ∷ ds) i x lt in cc

-- names at one place are one name
pub one_name : (ds : List Declaration) (a b : List ℕ) (k : ℕ) → place_of ds a ≡ Some k → place_of ds b ≡ Some k → IsTrue (str_eq_ignore_ascii_case a b)
unfolding place_of
one_name [] a b k at at' = absurd cc
one_name (e ∷ ds) a b k at at' =
    let d = get_or (e ∷ ds) k e in
    let one = (bytes_eq-Decides (str_to_ascii_lowercase d.name) (str_to_ascii_lowercase a)).0 (place_at (e ∷ ds) a k e at).1 in
    let two = (bytes_eq-Decides (str_to_ascii_lowercase d.name) (str_to_ascii_lowercase b)).0 (place_at (e ∷ ds) b k e at').1 in
    (bytes_eq-Decides (str_to_ascii_lowercase a) (str_to_ascii_lowercase b)).1 (sym one ∙ two)

-- a name has a place exactly if it is declared
pub found_declared : (ds : List Declaration) (name : List ℕ) → IsTrue (is_some (place_of ds name)) ↔ IsDeclared ds name
found_declared ds name = by_place (place_of ds name) refl
  where
    by_place : (o : Option ℕ) → place_of ds name ≡ o → IsTrue (is_some o) ↔ IsDeclared ds name
    by_place None e = ((λ no. absurd cc), (λ declared. absurd (declared_place ds name declared e)))
    by_place (Some k) e = ((λ _. place_declared ds name k e), (λ _. refl))

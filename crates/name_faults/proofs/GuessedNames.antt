-- Uses of names in their order, and the declarations that they give.
use Rattle.std.proofs.Common.{◌≡◌, ℕ, ◌+◌, ◌<◌, ◌≤◌, Bool, true, false, cond, not, ◌&&◌, ◌||◌, ltb, eqb, List, [], ◌∷◌, ◌++◌, Option, is_some, IsTrue, ◌↔◌, map, filter, take, length, get_or, refl, sym, ap, ◌∙◌, arith, if◌then◌else◌}
use Rattle.std.specs.Ordering.{is_lt, nat_cmp, ordering_then}
use Rattle.std.specs.List.{list_any, enumerate_from, flat_map}
use Rattle.std.specs.List.Sorted.{ties, IsPermutation, IsStableBy}
use Rattle.std.proofs.lemmas.List.Sorted.{IsPermutation-append, IsPermutation-refl, IsPermutation-trans}
use Rattle.std.specs.Str.{bytes_eq, str_eq_ignore_ascii_case, str_to_ascii_lowercase}
use Rattle.std.proofs.lemmas.Bool.Decides.{nat_tests}
use Rattle.std.proofs.lemmas.List.{map_push, take_all, take_more, append-nil}
use Rattle.std.proofs.lemmas.List.Elements.{filter_more, filter-append}
use Rattle.std.proofs.lemmas.List.Folds.{list_any_more, list_any-append, Any-from_list_any, list_any-from_Any}
use Rattle.std.proofs.lemmas.Grind.{flat_map-append}
use Rattle.std.proofs.lemmas.List.FromFn.{length-enumerate_from, get_or-enumerate_from}
use Rattle.std.proofs.lemmas.Slice.Eq.{bytes_eq-Decides}
use Rattle.declared_names.specs.declared.declarations.Declaration.{Declaration}
use Rattle.name_faults.specs.declared.name_use.NameUse.{NameUse}
use Rattle.network.specs.declared.element.Element.{Element}
use Rattle.name_faults.specs.Guess.{is_before, is_first, declaration_of, element_uses, first_uses, uses_of}
use Rattle.name_faults.specs.Steps.Guessing.{has_name, declared_with}
use Rattle.declared_names.specs.Names.{place_of, IsDeclared}

-- the order by the keys of the sort
abbrev pub key_before : NameUse → NameUse → Bool
key_before u v = is_lt (ordering_then (nat_cmp u.row v.row) (nat_cmp u.column v.column))

-- it is that of the uses
pub lt_is_before : (u v : NameUse) → key_before u v ≡ is_before u v
lt_is_before u v = numbers u.row v.row u.column v.column
  where
    numbers : (a b c d : ℕ) → is_lt (ordering_then (nat_cmp a b) (nat_cmp c d)) ≡ (ltb a b || (eqb a b && ltb c d))
    numbers a b c d = grind (arith, nat_tests)

-- a name that isn't declared
pub none_has : (ds : List Declaration) (name : List ℕ) → (IsDeclared ds name → ⊥) → list_any (has_name name) ds ≡ false
none_has ds name absent = by (list_any (has_name name) ds) refl
  where
    by : (b : Bool) → list_any (has_name name) ds ≡ b → list_any (has_name name) ds ≡ false
    by true e = absurd (absent (Any-from_list_any (has_name name) ds e))
    by false e = e

-- whether a use has the name
abbrev pub uses_name : List ℕ → NameUse → Bool
uses_name name u = str_eq_ignore_ascii_case u.name name

abbrev pub entry_of : ℕ × NameUse → Declaration
entry_of e = declaration_of e.1

abbrev pub counts : List NameUse → ℕ × NameUse → Bool
counts uses e = is_first uses e.0 e.1

-- the declarations are those of the first k uses
pub record FirstsTo (uses : List NameUse) (ds : List Declaration) (k : ℕ) : Type 0 where
  pub list : ds ≡ map entry_of (filter (counts uses) (take k (enumerate_from 0 uses)))
  pub same : (name : List ℕ) → list_any (has_name name) ds ≡ list_any (uses_name name) (take k uses)

pub FirstsTo-none : (uses : List NameUse) → FirstsTo uses [] 0
FirstsTo-none uses = record { list = refl; same = λ name. refl }

or-false : (b : Bool) → (b || false) ≡ b
or-false true = refl
or-false false = refl

or-true : (b : Bool) → (b || true) ≡ true
or-true true = refl
or-true false = refl

-- names that are the same stand for each other
same_name : (us : List NameUse) (a b : List ℕ) → str_eq_ignore_ascii_case a b ≡ true → list_any (uses_name a) us ≡ list_any (uses_name b) us
same_name us a b e =
    let lower : str_to_ascii_lowercase a ≡ str_to_ascii_lowercase b = (bytes_eq-Decides (str_to_ascii_lowercase a) (str_to_ascii_lowercase b)).0 e in
    ap (λ (l : List ℕ). list_any (λ (v : NameUse). bytes_eq (str_to_ascii_lowercase v.name) l) us) lower

module _ (uses : List NameUse) (ds : List Declaration) (k : ℕ) (u : NameUse) (lt : k < length uses) (is : get_or uses k u ≡ u) where
  at : get_or (enumerate_from 0 uses) k (0, u) ≡ (k, u)
  at =
      let zero_add : 0 + k ≡ k = omega arith in
      get_or-enumerate_from 0 uses k (0, u) lt ∙ ap (λ (n : ℕ). (n, get_or uses k u)) zero_add ∙ ap (λ (v : NameUse). (k, v)) is

  -- the entries that count, with one more
  more : filter (counts uses) (take (k + 1) (enumerate_from 0 uses))
      ≡ filter (counts uses) (take k (enumerate_from 0 uses)) ++ (if is_first uses k u then (k, u) ∷ [] else [])
  more =
      let within : k < length (enumerate_from 0 uses) = omega (arith, length-enumerate_from 0 uses) in
      filter_more (counts uses) (enumerate_from 0 uses) k (0, u) within
      ∙ ap (λ (e : ℕ × NameUse). filter (counts uses) (take k (enumerate_from 0 uses)) ++ cond (counts uses e) (e ∷ []) []) at

  more_names : (name : List ℕ) → list_any (uses_name name) (take (k + 1) uses) ≡ (list_any (uses_name name) (take k uses) || uses_name name u)
  more_names name = list_any_more (uses_name name) uses k u lt ∙ ap (λ (v : NameUse). list_any (uses_name name) (take k uses) || uses_name name v) is

  -- a further use of a name changes nothing
  again : FirstsTo uses ds k → list_any (uses_name u.name) (take k uses) ≡ true → FirstsTo uses ds (k + 1)
  again h e = record {
    list = h.list ∙ ap (map entry_of) (sym (append-nil (filter (counts uses) (take k (enumerate_from 0 uses)))))
        ∙ ap (λ b. map entry_of (filter (counts uses) (take k (enumerate_from 0 uses)) ++ (if not b then (k, u) ∷ [] else []))) (sym e)
        ∙ ap (map entry_of) (sym more);
    same = λ name. h.same name ∙ covers name (uses_name name u) refl ∙ sym (more_names name);
  }
    where
      covers : (name : List ℕ) (b : Bool) → uses_name name u ≡ b
          → list_any (uses_name name) (take k uses) ≡ (list_any (uses_name name) (take k uses) || uses_name name u)
      covers name false other = sym (ap (λ b. list_any (uses_name name) (take k uses) || b) other ∙ or-false (list_any (uses_name name) (take k uses)))
      covers name true it =
          let there : list_any (uses_name name) (take k uses) ≡ true = sym (same_name (take k uses) u.name name it) ∙ e in
          there ∙ sym (ap (λ b. list_any (uses_name name) (take k uses) || b) it ∙ or-true (list_any (uses_name name) (take k uses)))

  -- the first use of a name declares it
  first : FirstsTo uses ds k → list_any (uses_name u.name) (take k uses) ≡ false → FirstsTo uses (ds ++ declaration_of u ∷ []) (k + 1)
  first h e = record {
    list = ap (λ (l : List Declaration). l ++ declaration_of u ∷ []) h.list
        ∙ sym (map_push entry_of (filter (counts uses) (take k (enumerate_from 0 uses))) (k, u))
        ∙ ap (λ b. map entry_of (filter (counts uses) (take k (enumerate_from 0 uses)) ++ (if not b then (k, u) ∷ [] else []))) (sym e)
        ∙ ap (map entry_of) (sym more);
    same = λ name.
        list_any-append (has_name name) ds (declaration_of u ∷ [])
        ∙ ap (λ b. b || (uses_name name u || false)) (h.same name)
        ∙ ap (λ b. list_any (uses_name name) (take k uses) || b) (or-false (uses_name name u))
        ∙ sym (more_names name);
  }

  pub FirstsTo-more : FirstsTo uses ds k → FirstsTo uses (declared_with ds u) (k + 1)
  FirstsTo-more h = by (list_any (uses_name u.name) (take k uses)) refl
    where
      by : (b : Bool) → list_any (uses_name u.name) (take k uses) ≡ b → FirstsTo uses (declared_with ds u) (k + 1)
      by true e = rw (h.same u.name ∙ e) (again h e)
      by false e = rw (h.same u.name ∙ e) (first h e)

-- all uses are through
pub FirstsTo-all : (uses : List NameUse) (ds : List Declaration) (k : ℕ) → length uses ≤ k → FirstsTo uses ds k → ds ≡ first_uses uses
unfolding first_uses
FirstsTo-all uses ds k le h =
    let long : length (enumerate_from 0 uses) ≤ k = omega (arith, length-enumerate_from 0 uses) in
    h.list ∙ ap (λ (es : List (ℕ × NameUse)). map entry_of (filter (counts uses) es)) (take_all k (enumerate_from 0 uses) long)

-- a name that has a place is declared already
pub declared_before : (ds : List Declaration) (u : NameUse) (o : Option ℕ) → IsTrue (is_some (place_of ds u.name)) ↔ IsDeclared ds u.name → o ≡ place_of ds u.name → is_some o ≡ true → ds ≡ declared_with ds u
declared_before ds u o declared at some =
    let there : list_any (has_name u.name) ds ≡ true = list_any-from_Any (has_name u.name) ds (declared.0 (ap is_some (sym at) ∙ some)) in
    sym (ap (λ b. if b then ds else ds ++ declaration_of u ∷ []) there)

-- what is declared is the name of the use, which has no place yet
pub declared_new : (ds new : List Declaration) (u : NameUse) (given : List ℕ) (o : Option ℕ) → IsTrue (is_some (place_of ds u.name)) ↔ IsDeclared ds u.name → given ≡ u.name → o ≡ place_of ds u.name → is_some o ≡ false
    → new ≡ ds ++ record { name = given; declared = u.declared } ∷ [] → new ≡ declared_with ds u
declared_new ds new u given o declared same at unplaced pushed =
    let none : list_any (has_name u.name) ds ≡ false = none_has ds u.name (λ there. let wrong : false ≡ true = sym unplaced ∙ ap is_some at ∙ declared.1 there in absurd cc) in
    pushed ∙ ap (λ (n : List ℕ). ds ++ record { name = n; declared = u.declared } ∷ []) same
    ∙ sym (ap (λ b. if b then ds else ds ++ declaration_of u ∷ []) none)

-- which uses tie is the same by both
pub ties_are : (x y : NameUse) → ties is_before x y ≡ ties key_before x y
ties_are x y =
    ap (λ b. not b && not (is_before y x)) (sym (lt_is_before x y)) ∙ ap (λ b. not (key_before x y) && not b) (sym (lt_is_before y x))

-- the same uses, of which those at one place keep their order
pub record AreOrdered (uses ordered : List NameUse) : Type 0 where
  pub permutation : IsPermutation uses ordered
  pub stable : IsStableBy is_before uses ordered

-- two lists, one behind the other
pub ordered_append : (xs ys us vs : List NameUse) → AreOrdered xs ys → AreOrdered us vs → AreOrdered (xs ++ us) (ys ++ vs)
ordered_append xs ys us vs a b = record {
  permutation = IsPermutation-append xs ys us vs a.permutation b.permutation;
  stable = λ x. filter-append (ties is_before x) ys vs ∙ ap (λ (l : List NameUse). l ++ filter (ties is_before x) vs) (a.stable x)
      ∙ ap (λ (l : List NameUse). filter (ties is_before x) xs ++ l) (b.stable x) ∙ sym (filter-append (ties is_before x) xs us);
}

pub ordered_none : AreOrdered [] []
ordered_none = record { permutation = IsPermutation-refl []; stable = λ x. refl }

-- the uses of one more network
pub ordered_more : (networks : List (List Element)) (n : ℕ) (es : List Element) (ys vs : List NameUse) → n < length networks → es ≡ get_or networks n es
    → AreOrdered (uses_of (take n networks)) ys → AreOrdered (flat_map element_uses es) vs → AreOrdered (uses_of (take (n + 1) networks)) (ys ++ vs)
ordered_more networks n es ys vs lt is a b =
    let F : List Element → List NameUse = λ elements. flat_map element_uses elements in
    let here : take (n + 1) networks ≡ take n networks ++ es ∷ [] = take_more networks n es lt ∙ ap (λ y. take n networks ++ y ∷ []) (sym is) in
    let split : uses_of (take (n + 1) networks) ≡ uses_of (take n networks) ++ F es =
    ap (flat_map F) here ∙ flat_map-append F (take n networks) (es ∷ []) ∙ ap (λ y. flat_map F (take n networks) ++ y) (append-nil (F es)) in
    rw split (ordered_append (uses_of (take n networks)) ys (F es) vs a b)

-- in order once more
pub ordered_again : (xs ys zs : List NameUse) → AreOrdered xs ys → AreOrdered ys zs → AreOrdered xs zs
ordered_again xs ys zs a b = record {
  permutation = IsPermutation-trans xs ys zs a.permutation b.permutation;
  stable = λ x. b.stable x ∙ a.stable x;
}

-- A name of a list that is refused while the list is declared.
use Rattle.std.proofs.Common.{append_assoc, ◌≡◌, ◌⊎◌, inl, inr, ℕ, zero, suc, ◌+◌, ◌<◌, ◌||◌, Bool, true, false, IsTrue, List, [], ◌∷◌, ◌++◌, length, map, take, drop, get_or, refl, sym, ap, subst, ◌∙◌, arith}
use Rattle.std.specs.Prelude.{Any}
use Rattle.std.specs.List.{list_any}
use Rattle.std.proofs.lemmas.List.{append-nil, length-append, length-map}
use Rattle.std.proofs.lemmas.List.Folds.{Any-from_list_any, list_any-from_Any, list_any-append}
use Rattle.plant_grammar.specs.Steps.SameNames.{named_back}
use Rattle.declared_names.specs.declared.declarations.Declaration.{Declaration}
use Rattle.declared_names.specs.declared.declarations.Declared.{Declared}
use Rattle.declared_names.specs.Names.{IsDeclared}
use Rattle.plant_grammar.specs.Names.{is_named}
use Rattle.plant_grammar.specs.Steps.NamesRead.{IsNameTaken, IsNew}
use Rattle.plant_grammar.specs.Names.{AreNamesApart}
use Rattle.plant_grammar.specs.Lawful.{AreVariables, MayBeDeclared}
use Rattle.plant_grammar.proofs.Apart.{apart_more, list_any-map, any_with}
use Rattle.plant_grammar.proofs.NewNames.{may_be_declared}

split_at : {A : Type 0} (xs : List A) (i : ℕ) (x : A) → i < length xs → x ≡ get_or xs i x → xs ≡ take i xs ++ x ∷ drop (suc i) xs
split_at [] i x lt is = absurd (omega (arith, lt))
split_at (y ∷ ys) zero x lt is = ap (λ z. z ∷ ys) (sym is)
split_at (y ∷ ys) (suc i) x lt is = ap (λ zs. y ∷ zs) (split_at ys i x (omega (arith, lt)) is)

any_split : {A : Type 0} (p : A → Bool) (xs ys : List A) → Any (λ x. IsTrue (p x)) (xs ++ ys) → Any (λ x. IsTrue (p x)) xs ⊎ Any (λ x. IsTrue (p x)) ys
any_split p xs ys some = by_case (list_any p xs) refl (sym (list_any-append p xs ys) ∙ list_any-from_Any p (xs ++ ys) some)
  where
    by_case : (b : Bool) → list_any p xs ≡ b → (b || list_any p ys) ≡ true → Any (λ x. IsTrue (p x)) xs ⊎ Any (λ x. IsTrue (p x)) ys
    by_case true e h = inl (Any-from_list_any p xs e)
    by_case false e h = inr (Any-from_list_any p ys h)

declared_apart : (old : List Declaration) (d : Declared) (names : List (List ℕ)) (n : List ℕ) → IsDeclared (old ++ map (λ m. record { name = m; declared = d }) names) n → IsNameTaken (λ (v : Declaration). v.name) old n ⊎ IsNameTaken (λ (m : List ℕ). m) names n
declared_apart old d names n some =
    let make : List ℕ → Declaration = λ m. record { name = m; declared = d } in
    let same : Declaration → Bool = λ v. is_named n v.name in
    let flipped : Any (λ v. IsTrue (same v)) (old ++ map make names) = any_with _ _ (old ++ map make names) (λ v h. named_back v.name n h) some in
    elim (any_split same old (map make names) flipped) [
      | inl early ↦ inl early
      | inr late ↦ inr (Any-from_list_any (is_named n) names (sym (list_any-map make same names) ∙ list_any-from_Any same (map make names) late))
    ]

-- a name at its place of a list that may be declared may be declared there
pub add_allowed : (old now : List Declaration) (d : Declared) (names read : List (List ℕ)) (i : ℕ) (n : List ℕ) → read ≡ names → now ≡ old ++ map (λ m. record { name = m; declared = d }) (take i names) → i < length read → n ≡ get_or read i n
    → MayBeDeclared old names → (IsDeclared now n → ⊥) × (length now < 1000)
add_allowed old now d names read i n same grown lt is may =
    let make : List ℕ → Declaration = λ m. record { name = m; declared = d } in
    let before = take i names in
    let split = split_at names i n (subst (λ xs. i < length xs) same lt) (subst (λ xs. n ≡ get_or xs i n) same is) in
    let m = may_be_declared old before n (drop (suc i) names) (subst (MayBeDeclared old) split may) in
    let long : length now ≡ length old + length before = ap length grown ∙ length-append old (map make before) ∙ ap (λ k. length old + k) (length-map before make) in (
      (λ declared. elim (declared_apart old d before n (subst (λ ds. IsDeclared ds n) grown declared)) [
        | inl early ↦ m.0 (any_with _ _ old (λ v h. named_back n v.name h) early)
        | inr late ↦ m.1 late
      ]),
      omega (arith, long, m.2),
    )

map_same : {A : Type 0} (xs : List A) → map (λ x. x) xs ≡ xs
map_same [] = refl
map_same (x ∷ xs) = ap (λ ys. x ∷ ys) (map_same xs)

-- one more name may be declared, if it is none of these
pub one_more_declared : (vs : List Declaration) (names : List (List ℕ)) (n : List ℕ) → MayBeDeclared vs names → (IsDeclared vs n → ⊥) → IsNew (λ (m : List ℕ). m) names n → length vs + length names < 1000 → MayBeDeclared vs (names ++ n ∷ [])
one_more_declared vs names n may undeclared new few =
    let old : List (List ℕ) = map (λ (v : Declaration). v.name) vs in
    let fresh : IsNew (λ (m : List ℕ). m) (old ++ names) n = λ taken. elim (any_split (is_named n) old names taken) [
      | inl early ↦ undeclared (any_with _ _ vs (λ v h. named_back n v.name h) (Any-from_list_any (λ (v : Declaration). is_named n v.name) vs (sym (list_any-map (λ (v : Declaration). v.name) (is_named n) vs) ∙ list_any-from_Any (is_named n) old early)))
      | inr late ↦ new late
    ] in
    let apart : AreNamesApart (map (λ (m : List ℕ). m) ((old ++ names) ++ n ∷ [])) = apart_more (λ (m : List ℕ). m) (old ++ names) ((old ++ names) ++ n ∷ []) n refl (subst AreNamesApart (sym (map_same (old ++ names))) may.0) fresh in (
      subst AreNamesApart (map_same ((old ++ names) ++ n ∷ []) ∙ append_assoc old names (n ∷ [])) apart,
      omega (arith, few, length-append names (n ∷ [])),
    )

-- no names may be declared
pub none_declared : (vs : List Declaration) (names : List (List ℕ)) → AreVariables vs → names ≡ [] → MayBeDeclared vs names
none_declared vs names are none = subst (λ ns. MayBeDeclared vs ns) (sym none) (subst AreNamesApart (sym (append-nil (map (λ (v : Declaration). v.name) vs))) are.apart, omega (arith, are.few))

-- the first name may be declared, if it is none of the variables
pub first_declared : (vs : List Declaration) (names : List (List ℕ)) (n : List ℕ) → AreVariables vs → names ≡ [] → (IsDeclared vs n → ⊥) → length vs + length names < 1000 → MayBeDeclared vs (names ++ n ∷ [])
first_declared vs names n are none undeclared few =
    let new : IsNew (λ (m : List ℕ). m) [] n = λ taken. absurd (omega (arith, taken.2)) in
    one_more_declared vs names n (none_declared vs names are none) undeclared (subst (λ ns. IsNew (λ (m : List ℕ). m) ns n) (sym none) new) few

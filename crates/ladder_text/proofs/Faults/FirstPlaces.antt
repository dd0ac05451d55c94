-- On the first of places and columns.
use Rattle.std.proofs.Common.{ℕ, ◌+◌, ◌<◌, ◌≤◌, ◌≡◌, ◌||◌, List, length, take, get_or, Option, Some, None, refl, sym, ap, ◌∙◌, subst, arith, rules, tests, Bool, true, false, cond, IsTrue, IsFalse, ◌⊎◌, inl, inr, length-take-le}
use Rattle.std.specs.Prelude.{min, MatchOption}
use Rattle.std.specs.List.{Any, list_any}
use Rattle.std.proofs.lemmas.Bool.{cases_lt, both_ways}
use Rattle.std.proofs.lemmas.List.{get_or-take, get_or_default, take_all}
use Rattle.std.proofs.lemmas.List.Folds.{list_any_at, list_any_more}
use Rattle.drawings.specs.declared.place.Place.{Place}
use Rattle.ladder_rows.specs.declared.span.Span.{Span}
use Rattle.ladder_text.specs.Places.{is_before}
use Rattle.ladder_rows.specs.Faults.{IsPlaceUpTo, IsFirstAt}
use Rattle.ladder_text.specs.FirstFault.{IsSpanAt}
use Rattle.ladder_text.specs.Steps.Search.{IsNone, IsFirstOf, IsFirstColumn, IsFirstColumnOf, or_earlier}

-- places of which none is in a row above: the first column of the row
pub row_first : (IsSuch : ℕ → ℕ → Type 0) (r c : ℕ) → ((i j : ℕ) → i < r → IsSuch i j → ⊥) → IsFirstColumn (IsSuch r) c → IsFirstAt IsSuch r c
row_first IsSuch r c above here = record {
  such = here.such;
  first = λ i j w. elim (cases_lt i r) [
    | inl h ↦ absurd (above i j h w)
    | inr h ↦ elim (cases_lt r i) [
      | inl l ↦ inl l
      | inr l ↦
          let e : i ≡ r = omega arith in
          inr (sym e, here.first j (subst (λ (n : ℕ). IsSuch n j) e w))
    ]
  ];
}

up_to-next : (r c i j k l : ℕ) → IsPlaceUpTo r c i j → IsPlaceUpTo i j k l → IsPlaceUpTo r c k l
up_to-next r c i j k l (inl a) (inl b) = inl (omega arith)
up_to-next r c i j k l (inl a) (inr b) = inl (omega (arith, b.0))
up_to-next r c i j k l (inr a) (inl b) = inl (omega (arith, a.0))
up_to-next r c i j k l (inr a) (inr b) = inr (omega (arith, a.0, b.0), omega (arith, a.1, b.1))

before-up_to : (q p : Place) → is_before q p ≡ true → IsPlaceUpTo q.row q.column p.row p.column
before-up_to q p e = elim (cases_lt q.row p.row) [
  | inl h ↦ inl h
  | inr h ↦ elim (cases_lt p.row q.row) [
    | inl l ↦ absurd (search (rules, tests))
    | inr l ↦ inr (omega arith, search (rules, tests))
  ]
]

not_before-up_to : (q p : Place) → is_before q p ≡ false → IsPlaceUpTo p.row p.column q.row q.column
not_before-up_to q p e = elim (cases_lt p.row q.row) [
  | inl h ↦ inl h
  | inr h ↦ elim (cases_lt q.row p.row) [
    | inl l ↦ absurd (search (rules, tests))
    | inr l ↦
        let s : p.row ≡ q.row = omega arith in
        inr (s, search (rules, tests))
  ]
]

-- places that are such in one sense or the other: the first is the earlier of the two
pub either_first : (A B : ℕ → ℕ → Type 0) (p : Place) (o : Option Place) → IsFirstAt A p.row p.column → IsFirstOf B o
    → IsFirstAt (λ r c. A r c ⊎ B r c) (or_earlier p o).row (or_earlier p o).column
either_first A B p None a none = record {
  such = inl a.such;
  first = λ i j w. elim w [
    | inl x ↦ a.first i j x
    | inr y ↦ absurd (none i j y)
  ];
}
either_first A B p (Some q) a b = go (is_before q p) refl
  where
    go : (t : Bool) → is_before q p ≡ t → IsFirstAt (λ r c. A r c ⊎ B r c) (cond t q p).row (cond t q p).column
    go true e = record {
      such = inr b.such;
      first = λ i j w. elim w [
        | inl x ↦ up_to-next q.row q.column p.row p.column i j (before-up_to q p e) (a.first i j x)
        | inr y ↦ b.first i j y
      ];
    }
    go false e = record {
      such = inl a.such;
      first = λ i j w. elim w [
        | inl x ↦ a.first i j x
        | inr y ↦ up_to-next p.row p.column q.row q.column i j (not_before-up_to q p e) (b.first i j y)
      ];
    }

-- the same where there is none of the first sense
pub second_first : (A B : ℕ → ℕ → Type 0) (r c : ℕ) → IsNone A → IsFirstAt B r c → IsFirstAt (λ r c. A r c ⊎ B r c) r c
second_first A B r c none b = record {
  such = inr b.such;
  first = λ i j w. elim w [
    | inl x ↦ absurd (none i j x)
    | inr y ↦ b.first i j y
  ];
}

-- places that are the same ones
pub first_same : (A B : ℕ → ℕ → Type 0) (r c : ℕ) → ((i j : ℕ) → A i j → B i j) → ((i j : ℕ) → B i j → A i j) → IsFirstAt A r c → IsFirstAt B r c
first_same A B r c to from a = record { such = to r c a.such; first = λ i j w. a.first i j (from i j w) }

any_one_more : {X : Type 0} (P : X → Type 0) (xs : List X) (i : ℕ) (x d : X) → i < length xs → x ≡ get_or xs i d → Any P (take (i + 1) xs) → P x ⊎ Any P (take i xs)
any_one_more {X} P xs i x d h e w =
    let k = w.0 in
    let y = w.1 in
    let long : length (take (i + 1) xs) ≡ i + 1 = length-take-le (i + 1) xs (omega arith) in
    let size : length (take i xs) ≡ i = length-take-le i xs (omega arith) in
    let here : get_or xs k y ≡ y = sym (get_or-take (i + 1) xs k y (omega (arith, w.2))) ∙ w.3 in
    elim (cases_lt k i) [
      | inl l ↦ inr (k, y, omega arith, get_or-take i xs k y l ∙ here, w.4)
      | inr l ↦
          let at : k ≡ i = omega (arith, w.2) in
          let same : y ≡ x = sym here ∙ ap (λ (n : ℕ). get_or xs n y) at ∙ get_or_default xs i y d h ∙ sym e in
          inl (subst P same w.4)
    ]

any_before : {X : Type 0} (P : X → Type 0) (xs : List X) (i : ℕ) → i < length xs → Any P (take i xs) → Any P (take (i + 1) xs)
any_before P xs i h w =
    let k = w.0 in
    let y = w.1 in
    let long : length (take (i + 1) xs) ≡ i + 1 = length-take-le (i + 1) xs (omega arith) in
    let size : length (take i xs) ≡ i = length-take-le i xs (omega arith) in
    let early : k < i = omega (arith, w.2) in
    (k, y, omega arith, get_or-take (i + 1) xs k y (omega arith) ∙ sym (get_or-take i xs k y early) ∙ w.3, w.4)

any_here : {X : Type 0} (P : X → Type 0) (xs : List X) (i : ℕ) (x d : X) → i < length xs → x ≡ get_or xs i d → P x → Any P (take (i + 1) xs)
any_here P xs i x d h e p =
    let long : length (take (i + 1) xs) ≡ i + 1 = length-take-le (i + 1) xs (omega arith) in
    (i, x, omega arith, get_or-take (i + 1) xs i x (omega arith) ∙ get_or_default xs i x d h ∙ sym e, p)

pub any_of_none : {X : Type 0} (P : X → Type 0) (xs : List X) → Any P (take 0 xs) → ⊥
any_of_none P xs w = absurd (omega (arith, w.2))

-- a loop over a list: one more item with a place
pub item_found : {X : Type 0} (At : X → ℕ → ℕ → Type 0) (xs : List X) (i : ℕ) (x d : X) (first : Option Place) (p : Place) → i < length xs → x ≡ get_or xs i d
    → IsFirstOf (λ r c. Any (λ y. At y r c) (take i xs)) first → IsFirstAt (At x) p.row p.column
    → IsFirstOf (λ r c. Any (λ y. At y r c) (take (i + 1) xs)) (Some (or_earlier p first))
item_found At xs i x d first p h e before here =
    first_same (λ r c. At x r c ⊎ Any (λ y. At y r c) (take i xs)) (λ r c. Any (λ y. At y r c) (take (i + 1) xs)) (or_earlier p first).row (or_earlier p first).column
    (λ r c w. elim w [
      | inl a ↦ any_here (λ y. At y r c) xs i x d h e a
      | inr b ↦ any_before (λ y. At y r c) xs i h b
    ])
    (λ r c w. any_one_more (λ y. At y r c) xs i x d h e w)
    (either_first (At x) (λ r c. Any (λ y. At y r c) (take i xs)) p first here before)

-- and one without
pub item_passed : {X : Type 0} (At : X → ℕ → ℕ → Type 0) (xs : List X) (i : ℕ) (x d : X) (first : Option Place) → i < length xs → x ≡ get_or xs i d
    → IsFirstOf (λ r c. Any (λ y. At y r c) (take i xs)) first → IsNone (At x)
    → IsFirstOf (λ r c. Any (λ y. At y r c) (take (i + 1) xs)) first
item_passed At xs i x d None h e before here = λ r c w. elim (any_one_more (λ y. At y r c) xs i x d h e w) [
  | inl a ↦ here r c a
  | inr b ↦ before r c b
]
item_passed At xs i x d (Some p) h e before here =
    first_same (λ r c. At x r c ⊎ Any (λ y. At y r c) (take i xs)) (λ r c. Any (λ y. At y r c) (take (i + 1) xs)) p.row p.column
    (λ r c w. elim w [
      | inl a ↦ any_here (λ y. At y r c) xs i x d h e a
      | inr b ↦ any_before (λ y. At y r c) xs i h b
    ])
    (λ r c w. any_one_more (λ y. At y r c) xs i x d h e w)
    (second_first (At x) (λ r c. Any (λ y. At y r c) (take i xs)) p.row p.column here before)

least_of : (column n : ℕ) (found : Option ℕ) → MatchOption found (n ≡ column) (λ other. n ≡ min column other) → (A : ℕ → Type 0) → IsFirstColumnOf A found
    → (n ≤ column) × ((e : ℕ) → A e → n ≤ e) × ((n ≡ column) ⊎ A n)
least_of column n None is A none = (omega (arith, is), λ e a. absurd (none e a), inl is)
least_of column n (Some other) is A first = elim (cases_lt column other) [
  | inl h ↦ let same : n ≡ column = grind (arith, is) in (omega arith, λ e a. omega (arith, first.first e a), inl same)
  | inr h ↦ let same : n ≡ other = grind (arith, is) in (omega arith, λ e a. omega (arith, first.first e a), inr (subst A (sym same) first.such))
]

-- a loop over spans: one more that passes
pub span_found : (test : Span → Bool) (xs : List Span) (i : ℕ) (x d : Span) (first : Option ℕ) (n : ℕ) → i < length xs → x ≡ get_or xs i d
    → IsFirstColumnOf (IsSpanAt (take i xs) test) first → test x ≡ true → MatchOption first (n ≡ x.first) (λ other. n ≡ min x.first other)
    → IsFirstColumnOf (IsSpanAt (take (i + 1) xs) test) (Some n)
span_found test xs i x d first n h e before here is =
    let w = least_of x.first n first is (IsSpanAt (take i xs) test) before in
    record {
      such = elim w.2 [
        | inl s ↦ any_here (λ s. (s.first ≡ n) × IsTrue (test s)) xs i x d h e (sym s, here)
        | inr a ↦ any_before (λ s. (s.first ≡ n) × IsTrue (test s)) xs i h a
      ];
      first = λ k a. elim (any_one_more (λ s. (s.first ≡ k) × IsTrue (test s)) xs i x d h e a) [
        | inl p ↦ omega (arith, w.0, p.0)
        | inr q ↦ w.1 k q
      ];
    }

-- and one that doesn't
pub span_passed : (test : Span → Bool) (xs : List Span) (i : ℕ) (x d : Span) (first : Option ℕ) → i < length xs → x ≡ get_or xs i d
    → IsFirstColumnOf (IsSpanAt (take i xs) test) first → test x ≡ false → IsFirstColumnOf (IsSpanAt (take (i + 1) xs) test) first
span_passed test xs i x d None h e before here = λ k a. elim (any_one_more (λ s. (s.first ≡ k) × IsTrue (test s)) xs i x d h e a) [
  | inl p ↦ both_ways (test x) here p.1
  | inr q ↦ before k q
]
span_passed test xs i x d (Some n) h e before here = record {
  such = any_before (λ s. (s.first ≡ n) × IsTrue (test s)) xs i h before.such;
  first = λ k a. elim (any_one_more (λ s. (s.first ≡ k) × IsTrue (test s)) xs i x d h e a) [
    | inl p ↦ absurd (both_ways (test x) here p.1)
    | inr q ↦ before.first k q
  ];
}

-- no span passes
pub no_span : (test : Span → Bool) (xs : List Span) → IsFalse (list_any test xs) → (c : ℕ) → IsSpanAt xs test c → ⊥
no_span test xs none c w =
    both_ways (list_any test xs) none (list_any_at test xs w.0 w.1 w.2 (subst (λ (s : Span). test s ≡ true) (sym w.3) w.4.1))

or-true : (b : Bool) → (b || true) ≡ true
or-true true = refl
or-true false = refl

or-false : (b : Bool) → (b || false) ≡ b
or-false true = refl
or-false false = refl

-- one more item that passes, and one that doesn't
pub any_found : {X : Type 0} (test : X → Bool) (xs : List X) (i : ℕ) (d : X) → i < length xs → test (get_or xs i d) ≡ true → list_any test (take (i + 1) xs) ≡ true
any_found test xs i d h t = list_any_more test xs i d h ∙ ap (λ (b : Bool). list_any test (take i xs) || b) t ∙ or-true (list_any test (take i xs))

pub any_passed : {X : Type 0} (test : X → Bool) (xs : List X) (i : ℕ) (d : X) → i < length xs → test (get_or xs i d) ≡ false → list_any test (take (i + 1) xs) ≡ list_any test (take i xs)
any_passed test xs i d h t = list_any_more test xs i d h ∙ ap (λ (b : Bool). list_any test (take i xs) || b) t ∙ or-false (list_any test (take i xs))

-- the end of a loop over a list
pub all_items : {X : Type 0} (At : X → ℕ → ℕ → Type 0) (xs ys : List X) (n : ℕ) (first : Option Place) → length xs ≤ n → xs ≡ ys
    → IsFirstOf (λ r c. Any (λ y. At y r c) (take n xs)) first → IsFirstOf (λ r c. Any (λ y. At y r c) ys) first
all_items {X} At xs ys n first h e w = subst (λ (zs : List X). IsFirstOf (λ r c. Any (λ y. At y r c) zs) first) (take_all n xs h ∙ e) w

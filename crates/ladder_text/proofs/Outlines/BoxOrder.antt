-- The boxes of a drawing stand in order, and whether they share places.
use Rattle.std.proofs.Common.{ℕ, ◌+◌, ◌<◌, ◌≡◌, Bool, true, false, not, ◌||◌, ◌&&◌, ◌==◌, List, length, take, get_or, subst, Some, refl, sym, ap, ◌∙◌, arith, nat_le, length-take-le, inl, inr}
use Rattle.std.specs.List.{slice_get, list_all}
use Rattle.std.proofs.lemmas.Bool.{false_from_ne_true, and_parts, and_from, eqb-true, eq-eqb, both_ways, cases_lt}
use Rattle.std.proofs.lemmas.List.Folds.{list_any_at, list_all_at, Any-from_list_any}
use Rattle.std.proofs.lemmas.List.Sums.{list_all-from_AllPass}
use Rattle.std.proofs.lemmas.List.{get_or-take}
use Rattle.std.proofs.lemmas.Option.{slice_get_within, get_or_from_slice_get, slice_get-get_or, same_Some}
use Rattle.lists.specs.Rising.{IsRising}
use Rattle.ladder_rows.specs.declared.boxes.outline.Outline.{Outline}
use Rattle.ladder_text.specs.Faults.{is_apart, same_corner}
use Rattle.ladder_rows.specs.BoxTests.{share_place}
use Rattle.ladder_text.specs.FirstFault.{shares_before, IsSharedAt}
use Rattle.ladder_rows.specs.Faults.{IsFirstAt}
use Rattle.drawings.specs.declared.place.Place.{Place}
use Rattle.ladder_text.specs.Steps.Search.{IsFirstShared}
use Rattle.ladder_text.proofs.Rows.ListedItems.{IsBefore}

-- boxes stand by row and then column of their corners
abbrev pub AreRising : List Outline → Type 0
AreRising bs = IsRising (IsBefore (λ (o : Outline). o.top) (λ (o : Outline). o.left)) bs

share-swap : (a b : Outline) → share_place a b ≡ true → share_place b a ≡ true
share-swap a b h =
    let w = and_parts (nat_le a.top b.bottom && nat_le b.top a.bottom && nat_le a.left b.right) (nat_le b.left a.right) h in
    let u = and_parts (nat_le a.top b.bottom && nat_le b.top a.bottom) (nat_le a.left b.right) w.0 in
    let v = and_parts (nat_le a.top b.bottom) (nat_le b.top a.bottom) u.0 in
    and_from _ _ (and_from _ _ (and_from _ _ v.1 v.0) w.1) u.1

same-self : (a : Outline) → same_corner a a ≡ true
same-self a = and_from _ _ (eq-eqb a.top a.top refl) (eq-eqb a.left a.left refl)

or-right : (a b : Bool) → b ≡ false → (a || not b) ≡ true
or-right true b h = refl
or-right false b h = rw h refl

or-left : (a b : Bool) → a ≡ true → (a || not b) ≡ true
or-left a b h = rw h refl

-- a box that shares a place with no earlier one
earlier_apart : (bs : List Outline) (j k : ℕ) (a b : Outline) → j < k → slice_get bs j ≡ Some a → slice_get bs k ≡ Some b → shares_before bs k b ≡ false → share_place b a ≡ false
earlier_apart bs j k a b h x y none =
    false_from_ne_true (share_place b a) (λ s.
    let within : j < length (take k bs) = let last : k < length bs = slice_get_within bs k b y in omega (arith, length-take-le k bs (omega arith)) in
    let at : get_or (take k bs) j a ≡ a = get_or-take k bs j a h ∙ get_or_from_slice_get bs j a a x in
    both_ways (shares_before bs k b) none (list_any_at (share_place b) (take k bs) j a within (rw at s)))

pair_apart : (bs : List Outline) → ((k : ℕ) (b : Outline) → slice_get bs k ≡ Some b → shares_before bs k b ≡ false)
    → (j k : ℕ) (a b : Outline) → slice_get bs j ≡ Some a → slice_get bs k ≡ Some b → (same_corner a b || not (share_place a b)) ≡ true
pair_apart bs none j k a b x y = elim (cases_lt j k) [
  | inl h ↦ or-right _ _ (false_from_ne_true (share_place a b) (λ s. both_ways (share_place b a) (earlier_apart bs j k a b h x y (none k b y)) (share-swap a b s)))
  | inr h ↦ elim (cases_lt k j) [
    | inl l ↦ or-right _ _ (earlier_apart bs k j b a l y x (none j a x))
    | inr l ↦
        let e : j ≡ k = omega arith in
        let same : a ≡ b = same_Some a b (sym x ∙ ap (slice_get bs) e ∙ y) in
        or-left _ _ (subst (λ (c : Outline). same_corner a c ≡ true) same (same-self a))
  ]
]

-- where no box shares a place with one before it, all are apart
pub all_apart : (bs : List Outline) → ((k : ℕ) (b : Outline) → k < length bs → slice_get bs k ≡ Some b → shares_before bs k b ≡ false) → list_all (is_apart bs) bs ≡ true
all_apart bs none =
    let each : (k : ℕ) (b : Outline) → slice_get bs k ≡ Some b → shares_before bs k b ≡ false = λ k b e. none k b (slice_get_within bs k b e) e in
    list_all-from_AllPass (is_apart bs) bs (λ j d h.
    let a = get_or bs j d in
    list_all-from_AllPass (λ (b : Outline). same_corner a b || not (share_place a b)) bs (λ k e l.
    pair_apart bs each j k a (get_or bs k e) (slice_get-get_or bs j d h) (slice_get-get_or bs k e l)))

other_corner : (bs : List Outline) → AreRising bs → (j k : ℕ) (a b : Outline) → j < k → slice_get bs j ≡ Some a → slice_get bs k ≡ Some b → same_corner b a ≡ false
other_corner bs o j k a b h x y =
    false_from_ne_true (same_corner b a) (λ s.
    let w = and_parts (b.top == a.top) (b.left == a.left) s in
    let top : b.top ≡ a.top = eqb-true b.top a.top w.0 in
    let left : b.left ≡ a.left = eqb-true b.left a.left w.1 in
    elim (o j k a b h x y) [
      | inl l ↦ omega arith
      | inr v ↦ omega (arith, v.1)
    ])

-- where one does, they aren't
pub not_apart : (bs : List Outline) → AreRising bs → (k : ℕ) (b : Outline) → slice_get bs k ≡ Some b → shares_before bs k b ≡ true → list_all (is_apart bs) bs ≡ false
not_apart bs o k b y s =
    let w = Any-from_list_any (share_place b) (take k bs) s in
    let j = w.0 in
    let a = w.1 in
    let within : k < length bs = slice_get_within bs k b y in
    let size : length (take k bs) ≡ k = length-take-le k bs (omega arith) in
    let early : j < k = omega (arith, w.2, size) in
    let at : get_or bs j a ≡ a = sym (get_or-take k bs j a early) ∙ w.3 in
    let x : slice_get bs j ≡ Some a = slice_get-get_or bs j a (omega arith) ∙ ap (λ (c : Outline). Some c) at in
    let corner : same_corner b a ≡ false = other_corner bs o j k a b early x y in
    let here : get_or bs k b ≡ b = get_or_from_slice_get bs k b b y in
    let bad : is_apart bs b ≡ false =
    list_all_at (λ (c : Outline). same_corner b c || not (share_place b c)) bs j a (omega arith) (rw (at, corner, w.4) refl) in
    list_all_at (is_apart bs) bs k b within (rw here bad)

-- one more box that shares a place with none before it
pub none_more : (bs : List Outline) (n : ℕ) (c : Outline) → slice_get bs n ≡ Some c → shares_before bs n c ≡ false
    → ((k : ℕ) (b : Outline) → k < n → slice_get bs k ≡ Some b → shares_before bs k b ≡ false)
    → (k : ℕ) (b : Outline) → k < n + 1 → slice_get bs k ≡ Some b → shares_before bs k b ≡ false
none_more bs n c e here before k b h x = elim (cases_lt k n) [
  | inl l ↦ before k b l x
  | inr m ↦
      let at : n ≡ k = omega arith in
      let same : c ≡ b = same_Some c b (sym e ∙ ap (slice_get bs) at ∙ x) in
      subst (λ (i : ℕ). shares_before bs i b ≡ false) at (subst (λ (o : Outline). shares_before bs n o ≡ false) same here)
]

-- the first box that shares a place begins before the others that do
pub first_of_shared : (bs : List Outline) → AreRising bs → (p : Place) → IsFirstShared bs p → IsFirstAt (IsSharedAt bs) p.row p.column
first_of_shared bs o p s = record {
  such = record { number = s.number; box = s.outline; listed = s.listed; row = sym s.row; column = sym s.column; shares = s.shares };
  first = λ i j w. elim (cases_lt w.number s.number) [
    | inl l ↦ absurd (both_ways (shares_before bs w.number w.box) (s.first w.number w.box l w.listed) w.shares)
    | inr l ↦ elim (cases_lt s.number w.number) [
      | inl m ↦ elim (o s.number w.number s.outline w.box m s.listed w.listed) [
        | inl a ↦ inl (omega (arith, a, s.row, w.row))
        | inr a ↦ inr (omega (arith, a.0, s.row, w.row), omega (arith, a.1, s.column, w.column))
      ]
      | inr m ↦
          let at : s.number ≡ w.number = omega arith in
          let same : s.outline ≡ w.box = same_Some s.outline w.box (sym s.listed ∙ ap (slice_get bs) at ∙ w.listed) in
          let top = ap (λ (b : Outline). b.top) same in
          let left = ap (λ (b : Outline). b.left) same in
          inr (omega (arith, top, s.row, w.row), omega (arith, left, s.column, w.column))
    ]
  ];
}

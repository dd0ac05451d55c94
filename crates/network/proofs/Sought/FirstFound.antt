-- The first of the places at which something is found.
use Rattle.std.proofs.Common.{◌≡◌, ℕ, ◌+◌, ◌<◌, ◌≤◌, ◌⊎◌, inl, inr, List, [], ◌∷◌, ◌++◌, Option, Some, None, Any, Contains, IsTrue, min, max, slice_get, length, refl, sym, ap, ◌∙◌, arith}
use Rattle.std.proofs.lemmas.Bool.{cases_eq, cases_lt}
use Rattle.std.proofs.lemmas.Option.{slice_get_within, slice_get-get_or, get_or_from_slice_get}
use Rattle.std.proofs.lemmas.List.Elements.{Contains-append_left, Contains-push}
use Rattle.std.specs.Str.{str_eq_ignore_ascii_case}
use Rattle.lists.proofs.Places.{push_cases}
use Rattle.lists.proofs.Members.{contains_at, at_contains}
use Rattle.drawings.specs.declared.place.Place.{Place}
use Rattle.drawings.specs.declared.drawn_box.DrawnBox.{DrawnBox}
use Rattle.network.specs.declared.element.Element.{Element}
use Rattle.network.specs.Links.{place}
use Rattle.network.specs.Apart.{first_place}
use Rattle.network.specs.Networks.{PrecedesByRow, lowest_row}
use Rattle.network.specs.Steps.Ranks.{ArePlaces, IsUnmetAt, IsTall, IsTallAt, IsFirstPlaceOf}
use Rattle.network.specs.Steps.Twice.{IsTwiceIn}
use Rattle.network.proofs.Basics.{one_at}

-- the first of the first n places
pub record FirstTo (places : List Place) (least : Place) (n : ℕ) : Type 0 where
  pub there : Contains places least
  pub first : (k : ℕ) (q : Place) → k < n → slice_get places k ≡ Some q → PrecedesByRow q least → ⊥

pub before_self : (p : Place) → PrecedesByRow p p → ⊥
before_self p (inl h) = omega arith
before_self p (inr h) = let c = h.1 in omega arith

pub before_then : (p q r : Place) → PrecedesByRow p q → PrecedesByRow q r → PrecedesByRow p r
before_then p q r (inl a) (inl b) = inl (omega arith)
before_then p q r (inl a) (inr b) = inl (let e = b.0 in omega arith)
before_then p q r (inr a) (inl b) = inl (let e = a.0 in omega arith)
before_then p q r (inr a) (inr b) = inr (a.0 ∙ b.0, (let c = a.1 in let d = b.1 in omega arith))

pub first_kept : (places : List Place) (first : Place) (n : ℕ) (p : Place) → slice_get places n ≡ Some p → (PrecedesByRow p first → ⊥) → FirstTo places first n → FirstTo places first (n + 1)
first_kept places first n p at later done = record {
  there = done.there;
  first = λ k q lt at' b. elim (cases_eq k n) [ inl e ↦ later (rw (one_at places k n q p e at' at) at b) | inr ne ↦ done.first k q (omega arith) at' b ];
}

pub first_new : (places : List Place) (first : Place) (n : ℕ) (p : Place) → slice_get places n ≡ Some p → PrecedesByRow p first → FirstTo places first n → FirstTo places p (n + 1)
first_new places first n p at earlier done = record {
  there = contains_at places n p at;
  first = λ k q lt at' b. elim (cases_eq k n) [ inl e ↦ before_self p (rw (one_at places k n q p e at' at) at b) | inr ne ↦ done.first k q (omega arith) at' (before_then q p first b earlier) ];
}

pub first_all : (places : List Place) (first : Place) (n : ℕ) → length places ≤ n → FirstTo places first n → IsFirstPlaceOf places first
first_all places first n all done = record {
  there = done.there;
  first = λ q in' b. (let w = at_contains places q in' in done.first w.0 q (let lt = slice_get_within places w.0 q w.1 in omega arith) w.1 b);
}

-- the places grow with what they tell of
pub places_none : (P : Place → Type 0) → ((q : Place) → P q → ⊥) → ArePlaces P []
places_none P never = record { each = λ k p at. absurd (cc); whole = λ p h. absurd (never p h) }

pub places_same : (P Q : Place → Type 0) (places : List Place) → ((q : Place) → P q → Q q) → ((q : Place) → Q q → P q) → ArePlaces P places → ArePlaces Q places
places_same P Q places up down are = record { each = λ k p at. up p (are.each k p at); whole = λ p h. are.whole p (down p h) }

pub places_push : (P Q : Place → Type 0) (places : List Place) (p : Place) → Q p → ((q : Place) → P q → Q q) → ((q : Place) → Q q → P q ⊎ (q ≡ p)) → ArePlaces P places → ArePlaces Q (places ++ p ∷ [])
places_push P Q places p here up down are = record {
  each = λ k q at. elim (push_cases places p k q at) [ inl old ↦ up q (are.each k q old) | inr e ↦ rw e.1 here ];
  whole = λ q h. elim (down q h) [ inl was ↦ Contains-append_left places (p ∷ []) q (are.whole q was) | inr e ↦ rw e (Contains-push places p) ];
}

-- where the first n elements without a rank begin
module _ (es : List Element) (ranks : List (Option ℕ)) (n : ℕ) where
  unmet_up : (q : Place) → IsUnmetAt es ranks n q → IsUnmetAt es ranks (n + 1) q
  unmet_up q h = (h.0, h.1, (let lt = h.2 in omega arith), h.3, h.4, h.5)

  pub unmet_skip : (places : List Place) → (slice_get ranks n ≡ Some None → ⊥) → ArePlaces (IsUnmetAt es ranks n) places → ArePlaces (IsUnmetAt es ranks (n + 1)) places
  unmet_skip places other are = places_same (IsUnmetAt es ranks n) (IsUnmetAt es ranks (n + 1)) places unmet_up (λ q h. elim (cases_eq h.0 n) [
    | inl e ↦ absurd (other (ap (slice_get ranks) (sym e) ∙ h.4))
    | inr ne ↦ (h.0, h.1, (let lt = h.2 in omega arith), h.3, h.4, h.5)
  ]) are

  pub unmet_more : (places : List Place) (e : Element) → slice_get es n ≡ Some e → slice_get ranks n ≡ Some None → ArePlaces (IsUnmetAt es ranks n) places → ArePlaces (IsUnmetAt es ranks (n + 1)) (places ++ first_place e ∷ [])
  unmet_more places e at none are = places_push (IsUnmetAt es ranks n) (IsUnmetAt es ranks (n + 1)) places (first_place e) (n, e, omega arith, at, none, refl) unmet_up (λ q h. elim (cases_eq h.0 n) [
    | inl same ↦ inr (sym h.5 ∙ ap first_place (one_at es h.0 n h.1 e same h.3 at))
    | inr ne ↦ inl (h.0, h.1, (let lt = h.2 in omega arith), h.3, h.4, h.5)
  ]) are

-- the corners among the first n boxes
module _ (boxes : List DrawnBox) (n : ℕ) (c : DrawnBox) (at : slice_get boxes n ≡ Some c) where
  twice_up : (q : Place) → IsTwiceIn boxes n q → IsTwiceIn boxes (n + 1) q
  twice_up q h = (h.0, h.1, (let lt = h.2 in omega arith), h.3, h.4, h.5)

  pub twice_skip : (places : List Place) → (Any (λ b. PrecedesByRow (place b.top b.left) (place c.top c.left) × IsTrue (str_eq_ignore_ascii_case b.instance c.instance)) boxes → ⊥)
      → ArePlaces (IsTwiceIn boxes n) places → ArePlaces (IsTwiceIn boxes (n + 1)) places
  twice_skip places other are = places_same (IsTwiceIn boxes n) (IsTwiceIn boxes (n + 1)) places twice_up (λ q h. elim (cases_eq h.0 n) [
    | inl e ↦ absurd (other (moved h.1 (one_at boxes h.0 n h.1 c e h.3 at) h.4))
    | inr ne ↦ (h.0, h.1, (let lt = h.2 in omega arith), h.3, h.4, h.5)
  ]) are
    where
      moved : (x : DrawnBox) → x ≡ c → Any (λ b. PrecedesByRow (place b.top b.left) (place x.top x.left) × IsTrue (str_eq_ignore_ascii_case b.instance x.instance)) boxes
          → Any (λ b. PrecedesByRow (place b.top b.left) (place c.top c.left) × IsTrue (str_eq_ignore_ascii_case b.instance c.instance)) boxes
      moved x e h = rw (← e) h

  pub twice_more : (places : List Place) → Any (λ b. PrecedesByRow (place b.top b.left) (place c.top c.left) × IsTrue (str_eq_ignore_ascii_case b.instance c.instance)) boxes
      → ArePlaces (IsTwiceIn boxes n) places → ArePlaces (IsTwiceIn boxes (n + 1)) (places ++ place c.top c.left ∷ [])
  twice_more places earlier are = places_push (IsTwiceIn boxes n) (IsTwiceIn boxes (n + 1)) places (place c.top c.left) (n, c, omega arith, at, earlier, refl) twice_up (λ q h. elim (cases_eq h.0 n) [
    | inl same ↦ inr (sym h.5 ∙ ap (λ (b : DrawnBox). place b.top b.left) (one_at boxes h.0 n h.1 c same h.3 at))
    | inr ne ↦ inl (h.0, h.1, (let lt = h.2 in omega arith), h.3, h.4, h.5)
  ]) are

-- where the elements of the tall ones of the first n networks begin
module _ (networks : List (List Element)) (n : ℕ) (es : List Element) (at : slice_get networks n ≡ Some es) where
  tall_up : (q : Place) → IsTallAt networks n q → IsTallAt networks (n + 1) q
  tall_up q h = (h.0, h.1, h.2, h.3, (let lt = h.4 in omega arith), h.5, h.6, h.7, h.8)

  pub tall_skip : (places : List Place) → (IsTall es → ⊥) → ArePlaces (IsTallAt networks n) places → ArePlaces (IsTallAt networks (n + 1)) places
  tall_skip places other are = places_same (IsTallAt networks n) (IsTallAt networks (n + 1)) places tall_up (λ q h. elim (cases_eq h.0 n) [
    | inl e ↦ absurd (other (moved h.1 (one_at networks h.0 n h.1 es e h.5 at) h.6))
    | inr ne ↦ (h.0, h.1, h.2, h.3, (let lt = h.4 in omega arith), h.5, h.6, h.7, h.8)
  ]) are
    where
      moved : (x : List Element) → x ≡ es → IsTall x → IsTall es
      moved x e h = rw (← e) h

  pub tall_more : (old new : List Place) → IsTall es
      → ((k : ℕ) (p : Place) → slice_get new k ≡ Some p → Contains old p ⊎ Any (λ e. first_place e ≡ p) es)
      → ((p : Place) → Contains old p → Contains new p) → ((p : Place) → Any (λ e. first_place e ≡ p) es → Contains new p)
      → ArePlaces (IsTallAt networks n) old → ArePlaces (IsTallAt networks (n + 1)) new
  tall_more old new tall each kept added are = record {
    each = λ k p at'. elim (each k p at') [
      | inl was ↦ (let w = at_contains old p was in tall_up p (are.each w.0 p w.1))
      | inr any ↦ (n, es, any.0, any.1, omega arith, at, tall, slice_get-get_or es any.0 any.1 any.2 ∙ ap Some any.3, any.4)
    ];
    whole = λ q h. elim (cases_eq h.0 n) [
      | inl e ↦ added q (moved h.1 (one_at networks h.0 n h.1 es e h.5 at) (h.2, h.3, slice_get_within h.1 h.2 h.3 h.7, get_or_from_slice_get h.1 h.2 h.3 h.3 h.7, h.8))
      | inr ne ↦ kept q (are.whole q (h.0, h.1, h.2, h.3, (let lt = h.4 in omega arith), h.5, h.6, h.7, h.8))
    ];
  }
    where
      moved : {q : Place} (x : List Element) → x ≡ es → Any (λ e. first_place e ≡ q) x → Any (λ e. first_place e ≡ q) es
      moved x e h = rw (← e) h

-- the first n elements' places were added
pub record FirstsTo (old new : List Place) (es : List Element) (n : ℕ) : Type 0 where
  pub each : (k : ℕ) (p : Place) → slice_get new k ≡ Some p → Contains old p ⊎ Any (λ e. first_place e ≡ p) es
  pub kept : (p : Place) → Contains old p → Contains new p
  pub added : (j : ℕ) (e : Element) → j < n → slice_get es j ≡ Some e → Contains new (first_place e)

pub firsts_none : (old : List Place) (es : List Element) → FirstsTo old old es 0
firsts_none old es = record { each = λ k p at. inl (contains_at old k p at); kept = λ p h. h; added = λ j e lt. absurd (omega arith) }

pub firsts_more : (old mid : List Place) (es : List Element) (n : ℕ) (e : Element) → slice_get es n ≡ Some e → FirstsTo old mid es n → FirstsTo old (mid ++ first_place e ∷ []) es (n + 1)
firsts_more old mid es n e at done = record {
  each = λ k p at'. elim (push_cases mid (first_place e) k p at') [
    | inl was ↦ done.each k p was
    | inr h ↦ inr (n, e, slice_get_within es n e at, get_or_from_slice_get es n e e at, sym h.1)
  ];
  kept = λ p h. Contains-append_left mid (first_place e ∷ []) p (done.kept p h);
  added = λ j f lt at'. elim (cases_eq j n) [
    | inl same ↦ rw (one_at es j n f e same at' at) (Contains-push mid (first_place e))
    | inr ne ↦ Contains-append_left mid (first_place e ∷ []) (first_place f) (done.added j f (omega arith) at')
  ];
}

pub firsts_added : (old new : List Place) (es : List Element) (n : ℕ) → length es ≤ n → FirstsTo old new es n → (p : Place) → Any (λ e. first_place e ≡ p) es → Contains new p
firsts_added old new es n all done p any =
    let at : slice_get es any.0 ≡ Some any.1 = slice_get-get_or es any.0 any.1 any.2 ∙ ap Some any.3 in
    rw (← any.4) (done.added any.0 any.1 (let lt = any.2 in omega arith) at)

-- the least first row and the greatest last row of the first n elements
pub record RowsTo (es : List Element) (least greatest n : ℕ) : Type 0 where
  pub above : (k : ℕ) (e : Element) → k < n → slice_get es k ≡ Some e → least ≤ (first_place e).row
  pub top : (least ≡ 18446744073709551615) ⊎ ((k : ℕ) × (e : Element) × (slice_get es k ≡ Some e) × ((first_place e).row ≡ least))
  pub below : (k : ℕ) (e : Element) → k < n → slice_get es k ≡ Some e → lowest_row e ≤ greatest
  pub bottom : (greatest ≡ 0) ⊎ ((k : ℕ) × (e : Element) × (slice_get es k ≡ Some e) × (lowest_row e ≡ greatest))

pub rows_none : (es : List Element) → RowsTo es 18446744073709551615 0 0
rows_none es = record { above = λ k e lt. absurd (omega arith); top = inl refl; below = λ k e lt. absurd (omega arith); bottom = inl refl }

pub rows_more : (es : List Element) (least greatest least' greatest' n : ℕ) (e : Element) → slice_get es n ≡ Some e
    → least' ≡ min least (first_place e).row → greatest' ≡ max greatest (lowest_row e) → RowsTo es least greatest n → RowsTo es least' greatest' (n + 1)
rows_more es least greatest least' greatest' n e at is_least is_greatest done = record {
  above = λ k f lt at'. elim (cases_eq k n) [
    | inl same ↦ rw (one_at es k n f e same at' at) (omega arith)
    | inr ne ↦ (let a = done.above k f (omega arith) at' in omega arith)
  ];
  top = elim (cases_lt (first_place e).row least) [
    | inl gt ↦ inr (n, e, at, omega arith)
    | inr le ↦ elim done.top [ inl m ↦ inl (omega arith) | inr w ↦ inr (w.0, w.1, w.2, (let r = w.3 in omega arith)) ]
  ];
  below = λ k f lt at'. elim (cases_eq k n) [
    | inl same ↦ rw (one_at es k n f e same at' at) (omega arith)
    | inr ne ↦ (let a = done.below k f (omega arith) at' in omega arith)
  ];
  bottom = elim (cases_lt greatest (lowest_row e)) [
    | inl gt ↦ inr (n, e, at, omega arith)
    | inr le ↦ elim done.bottom [ inl m ↦ inl (omega arith) | inr w ↦ inr (w.0, w.1, w.2, (let r = w.3 in omega arith)) ]
  ];
}

-- more than 200 rows lie between them exactly where the elements are tall
pub tall_from : (es : List Element) (least greatest n : ℕ) → greatest ≤ 18446744073709551615 → least + 200 ≤ greatest → RowsTo es least greatest n → IsTall es
tall_from es least greatest n most far done = elim done.top [
  | inl m ↦ absurd (omega arith)
  | inr a ↦ elim done.bottom [
    | inl z ↦ absurd (omega arith)
    | inr b ↦ (a.0, b.0, a.1, b.1, a.2, b.2, (let r = a.3 in let s = b.3 in omega arith))
  ]
]

pub far_from : (es : List Element) (least greatest n : ℕ) → length es ≤ n → RowsTo es least greatest n → IsTall es → least + 200 ≤ greatest
far_from es least greatest n all done tall =
    let a = done.above tall.0 tall.2 (let lt = slice_get_within es tall.0 tall.2 tall.4 in omega arith) tall.4 in
    let b = done.below tall.1 tall.3 (let lt = slice_get_within es tall.1 tall.3 tall.5 in omega arith) tall.5 in
    let far = tall.6 in
    omega arith

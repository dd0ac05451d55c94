-- The first corner of each box's name, and the earlier of two places.
use Rattle.std.proofs.Common.{◌≡◌, ℕ, ◌+◌, ◌⊎◌, inl, inr, List, [], ◌∷◌, Option, Some, None, Bool, true, false, cond, IsSomeAnd, Any, String, Global, slice_get, length, refl, sym, subst, ap, ◌∙◌, arith}
use Rattle.std.specs.BTreeMap.{BTreeMap, get_by_text, is_at}
use Rattle.std.specs.Map.{lookup, update}
use Rattle.std.specs.Str.{bytes_eq, str_to_ascii_lowercase}
use Rattle.std.proofs.lemmas.Bool.{cases_eq, cases_lt, false_from_ne_true}
use Rattle.std.proofs.lemmas.Slice.Eq.{bytes_eq-Decides}
use Rattle.std.proofs.lemmas.Map.Text.{text_cmp}
use Rattle.std.proofs.lemmas.Option.{slice_get_within, slice_get-get_or, get_or_from_slice_get}
use Rattle.drawings.specs.declared.place.Place.{Place}
use Rattle.drawings.specs.declared.drawn_box.DrawnBox.{DrawnBox}
use Rattle.network.specs.Links.{place}
use Rattle.network.specs.Networks.{PrecedesByRow}
use Rattle.network.specs.Steps.Twice.{IsEarlierBox}
use Rattle.network.specs.Steps.Corners.{IsCornerOf, AreFirstCorners, IsEarlierCorner, TakesCorner}
use Rattle.network.proofs.Basics.{some_is, one_at}
use Rattle.network.proofs.Sought.FirstFound.{before_self, before_then}

-- what a place is not before comes no later
no_later : (q p r : Place) → PrecedesByRow q r → (PrecedesByRow q p → ⊥) → PrecedesByRow p r
no_later q p r before not = elim (cases_lt p.row r.row) [
  | inl lt ↦ inl lt
  | inr far ↦ elim before [
    | inl a ↦ absurd (not (inl (omega arith)))
    | inr a ↦ elim (cases_lt q.row p.row) [
      | inl lt ↦ absurd (not (inl lt))
      | inr near ↦ elim (cases_lt q.column p.column) [
        | inl lt ↦ absurd (not (inr (let e = a.0 in omega arith, lt)))
        | inr close ↦ inr (let e = a.0 in omega arith, let lt = a.1 in omega arith)
      ]
    ]
  ]
]

-- the earlier of two places is after neither
not_after_other : (known : Option Place) (corner p : Place) → IsEarlierCorner known corner p → PrecedesByRow corner p → ⊥
not_after_other None corner p e b = before_self corner (rw e at b)
not_after_other (Some k) corner p (inl h) b = before_self corner (before_then corner k corner (rw h.1 at b) h.0)
not_after_other (Some k) corner p (inr h) b = before_self corner (rw h.1 at b)

not_after_known : (known : Option Place) (corner k p q : Place) → known ≡ Some k → IsEarlierCorner known corner p → (PrecedesByRow q k → ⊥) → PrecedesByRow q p → ⊥
not_after_known None corner k p q e is not b = absurd (cc)
not_after_known (Some j) corner k p q e (inl h) not b = not (rw (h.1, some_is j k e) at b)
not_after_known (Some j) corner k p q e (inr h) not b = h.0 (rw (← some_is j k e) at (no_later q k corner (rw h.1 at b) not))

-- two names are one or not
name_cases : (x y : List ℕ) → (x ≡ y) ⊎ (x ≡ y → ⊥)
name_cases x y = go (bytes_eq x y) refl
  where
    go : (b : Bool) → bytes_eq x y ≡ b → (x ≡ y) ⊎ (x ≡ y → ⊥)
    go true e = inl ((bytes_eq-Decides x y).0 e)
    go false e = inr (λ same. (let h : ◌≡◌ {A = Bool} true false = sym ((bytes_eq-Decides x y).1 same) ∙ e in cc))

-- a map in which one name was set takes its corner
pub takes_from : (old new : BTreeMap (String Global) Place) (name : List ℕ) (corner p : Place) (known : Option Place)
    → ((other : List ℕ) → get_by_text new other ≡ update bytes_eq (get_by_text old) name (Some p) other) → known ≡ get_by_text old name → IsEarlierCorner known corner p → TakesCorner old name corner new
takes_from old new name corner p known sets is earlier = record {
  here = (p, sets name ∙ ap (λ b. cond b (Some p) (get_by_text old name)) ((bytes_eq-Decides name name).1 refl), rw is at earlier);
  others = λ other differs. sets other
      ∙ ap (λ b. cond b (Some p) (get_by_text old other)) (false_from_ne_true (bytes_eq name other) (λ same. differs (sym ((bytes_eq-Decides name other).0 same))));
}

-- one box more
module _ (boxes : List DrawnBox) (old new : BTreeMap (String Global) Place) (n : ℕ) (b : DrawnBox) (at : slice_get boxes n ≡ Some b)
    (takes : TakesCorner old (str_to_ascii_lowercase b.instance) (place b.top b.left) new) (are : AreFirstCorners boxes old n) where
  more : (name : List ℕ) (p : Place) → IsCornerOf boxes n name p → IsCornerOf boxes (n + 1) name p
  more name p h = (h.0, h.1, (let lt = h.2 in omega arith), h.3, h.4, h.5)

  abbrev own : List ℕ
  own = str_to_ascii_lowercase b.instance

  there_own : (p : Place) (known : Option Place) → get_by_text old own ≡ known → IsEarlierCorner known (place b.top b.left) p → IsCornerOf boxes (n + 1) own p
  there_own p None was e = (n, b, omega arith, at, refl, sym e)
  there_own p (Some k) was (inl h) = more own p (rw h.1 (are.there own k was))
  there_own p (Some k) was (inr h) = (n, b, omega arith, at, refl, sym h.1)

  there_new : (name : List ℕ) (p : Place) → get_by_text new name ≡ Some p → IsCornerOf boxes (n + 1) name p
  there_new name p h = elim (name_cases name own) [
    | inl same ↦
        (let one : takes.here.0 ≡ p = some_is takes.here.0 p (sym takes.here.1 ∙ ap (get_by_text new) (sym same) ∙ h) in
        rw (same, ← one) (there_own takes.here.0 (get_by_text old own) refl takes.here.2))
    | inr other ↦ more name p (are.there name p (sym (takes.others name other) ∙ h))
  ]

  -- a corner that was there, under this box's name and under another one
  first_own : (q : Place) → IsCornerOf boxes n own q → (p : Place) × (get_by_text new own ≡ Some p) × (PrecedesByRow q p → ⊥)
  first_own q was =
      let known = are.first own q was in
      (takes.here.0, takes.here.1, not_after_known (get_by_text old own) (place b.top b.left) known.0 takes.here.0 q known.1 takes.here.2 known.2)

  first_old : (name : List ℕ) (q : Place) → IsCornerOf boxes n name q → (p : Place) × (get_by_text new name ≡ Some p) × (PrecedesByRow q p → ⊥)
  first_old name q was = elim (name_cases name own) [
    | inl same ↦ rw same (first_own q (rw same at was))
    | inr other ↦ (let known = are.first name q was in (known.0, takes.others name other ∙ known.1, known.2))
  ]

  first_here : (name : List ℕ) (q : Place) → own ≡ name → place b.top b.left ≡ q → (p : Place) × (get_by_text new name ≡ Some p) × (PrecedesByRow q p → ⊥)
  first_here name q same corner = rw (← same, ← corner)
      (takes.here.0, takes.here.1, not_after_other (get_by_text old own) (place b.top b.left) takes.here.0 takes.here.2)

  first_new : (name : List ℕ) (q : Place) → IsCornerOf boxes (n + 1) name q → (p : Place) × (get_by_text new name ≡ Some p) × (PrecedesByRow q p → ⊥)
  first_new name q h = elim (cases_eq h.0 n) [
    | inl e ↦
        (let one : h.1 ≡ b = one_at boxes h.0 n h.1 b e h.3 at in
        first_here name q (ap (λ (x : DrawnBox). str_to_ascii_lowercase x.instance) (sym one) ∙ h.4) (ap (λ (x : DrawnBox). place x.top x.left) (sym one) ∙ h.5))
    | inr ne ↦ first_old name q (h.0, h.1, (let lt = h.2 in omega arith), h.3, h.4, h.5)
  ]

  pub corners_more : AreFirstCorners boxes new (n + 1)
  corners_more = record { there = there_new; first = first_new }

pub corners_none : (boxes : List DrawnBox) (corners : BTreeMap (String Global) Place) → corners.entries ≡ [] → AreFirstCorners boxes corners 0
corners_none boxes corners empty = record {
  there = λ name p h. absurd (nothing corners.entries name p empty h);
  first = λ name q h. absurd (let lt = h.2 in omega arith);
}
  where
    nothing : (es : List (String Global × Place)) (name : List ℕ) (p : Place) → es ≡ [] → lookup (is_at (text_cmp name)) es ≡ Some p → ⊥
    nothing [] name p e h = cc
    nothing (x ∷ es) name p e h = cc

-- an earlier box has the name exactly where the first corner of the name is earlier
module _ (boxes : List DrawnBox) (corners : BTreeMap (String Global) Place) (are : AreFirstCorners boxes corners (length boxes)) (c : DrawnBox) where
  pub twice_from : (known : Option Place) → get_by_text corners (str_to_ascii_lowercase c.instance) ≡ known → IsSomeAnd known (λ p. PrecedesByRow p (place c.top c.left)) → Any (IsEarlierBox c) boxes
  twice_from None was h = absurd h
  twice_from (Some p) was h =
      let w = are.there (str_to_ascii_lowercase c.instance) p was in (
        w.0,
        w.1,
        slice_get_within boxes w.0 w.1 w.3,
        get_or_from_slice_get boxes w.0 w.1 w.1 w.3,
        (subst (λ (x : Place). PrecedesByRow x (place c.top c.left)) (sym w.5) h, (bytes_eq-Decides (str_to_ascii_lowercase w.1.instance) (str_to_ascii_lowercase c.instance)).1 w.4),
      )

  pub twice_known : Any (IsEarlierBox c) boxes → IsSomeAnd (get_by_text corners (str_to_ascii_lowercase c.instance)) (λ p. PrecedesByRow p (place c.top c.left))
  twice_known any =
      let b = any.1 in
      let at : slice_get boxes any.0 ≡ Some b = slice_get-get_or boxes any.0 b any.2 ∙ ap Some any.3 in
      let same : str_to_ascii_lowercase b.instance ≡ str_to_ascii_lowercase c.instance = (bytes_eq-Decides (str_to_ascii_lowercase b.instance) (str_to_ascii_lowercase c.instance)).0 any.4.1 in
      let known = are.first (str_to_ascii_lowercase c.instance) (place b.top b.left) (any.0, b, any.2, at, same, refl) in
      rw known.1 (no_later (place b.top b.left) known.0 (place c.top c.left) any.4.0 known.2)

-- Places that are numbered, the table that finds their numbers, and the numbers of the places in a list.
use Rattle.std.proofs.Common.{◌≡◌, ◌↔◌, ℕ, ◌-◌, ◌<◌, ◌≤◌, ◌⊎◌, Bool, true, false, ◌&&◌, nat_eq, None, inl, inr, List, [], ◌∷◌, ◌++◌, Option, Some, is_some, IsTrue, Contains, slice_get, length, refl, sym, ap, ◌∙◌, arith}
use Rattle.std.proofs.lemmas.Bool.{cases_eq, eqb-true, eq-eqb}
use Rattle.std.proofs.lemmas.Option.{slice_get_within}
use Rattle.lists.proofs.Places.{push_cases}
use Rattle.lists.proofs.Members.{contains_at, at_contains}
use Rattle.drawings.specs.declared.place.Place.{Place}
use Rattle.network.specs.declared.places.numbering.Spot.{Spot}
use Rattle.network.specs.Steps.Numbers.{AreNumbers, IsIndex, IsSpot, KeepsNumbers, number_at}
use Rattle.network.proofs.Basics.{one_at}

-- what is written at a place that has no number doesn't matter
pub AreNumbers-beside : (spots : List Spot) (old new : List (List ℕ)) (p : Place) → AreNumbers spots old → ((k : ℕ) → IsSpot spots k p → ⊥) → KeepsNumbers p old new → AreNumbers spots new
AreNumbers-beside spots old new p are never stays = record {
  whole = λ q k f. stays q k (λ e. never k (f.0, f.1, f.2 ∙ e)) (are.whole q k f);
}

-- a list that grows by a new place, whose number is written there
pub AreNumbers-push : (spots : List Spot) (old new : List (List ℕ)) (p : Place) (s : Spot) → AreNumbers spots old → s.place ≡ p → ((k : ℕ) → IsSpot spots k p → ⊥)
    → KeepsNumbers p old new → number_at new p ≡ Some (length spots) → AreNumbers (spots ++ s ∷ []) new
AreNumbers-push spots old new p s are is_p never stays here = record {
  whole = λ q k f. elim (push_cases spots s k f.0 f.1) [
    | inl was ↦ stays q k (λ e. never k (f.0, was, f.2 ∙ e)) (are.whole q k (f.0, was, f.2))
    | inr end ↦
        let e : p ≡ q = sym is_p ∙ sym (ap (λ (x : Spot). x.place) end.1) ∙ f.2 in
        ap (number_at new) (sym e) ∙ here ∙ ap Some (sym end.0)
  ];
}

pub same_place : (a b : Place) → true ≡ (nat_eq a.row b.row && nat_eq a.column b.column) → a ≡ b
same_place a b h = go (nat_eq a.row b.row) (nat_eq a.column b.column) refl refl h
  where
    go : (r c : Bool) → nat_eq a.row b.row ≡ r → nat_eq a.column b.column ≡ c → true ≡ (r && c) → a ≡ b
    go true true r c h = ap (λ (x : ℕ). record { row = x; column = a.column }) (eqb-true a.row b.row r) ∙ ap (λ (x : ℕ). record { row = b.row; column = x }) (eqb-true a.column b.column c)
    go true false r c h = absurd (cc)
    go false true r c h = absurd (cc)
    go false false r c h = absurd (cc)

pub other_place : (a b : Place) → false ≡ (nat_eq a.row b.row && nat_eq a.column b.column) → a ≡ b → ⊥
other_place a b h e =
    let r : nat_eq a.row b.row ≡ true = eq-eqb a.row b.row (ap (λ (x : Place). x.row) e) in
    let c : nat_eq a.column b.column ≡ true = eq-eqb a.column b.column (ap (λ (x : Place). x.column) e) in
    let x : false ≡ (true && true) = h ∙ ap (λ y. y && nat_eq a.column b.column) r ∙ ap (λ y. true && y) c in
    absurd (cc)

-- nothing is written at a place without a number
pub never_unwritten : (spots : List Spot) (rows : List (List ℕ)) (p : Place) → AreNumbers spots rows → number_at rows p ≡ None → (k : ℕ) → IsSpot spots k p → ⊥
never_unwritten spots rows p are none k f =
    let h : ◌≡◌ {A = Option ℕ} None (Some k) = sym none ∙ are.whole p k f in
    absurd (cc)

-- what is written there is the number of no place
pub never_beyond : (spots : List Spot) (rows : List (List ℕ)) (p : Place) (n : ℕ) → AreNumbers spots rows → number_at rows p ≡ Some n → slice_get spots n ≡ None → (k : ℕ) → IsSpot spots k p → ⊥
never_beyond spots rows p n are at none k f =
    let h : ◌≡◌ {A = Option ℕ} (Some n) (Some k) = sym at ∙ are.whole p k f in
    let same : n ≡ k = cc in
    let there : ◌≡◌ {A = Option Spot} None (Some f.0) = sym none ∙ ap (slice_get spots) same ∙ f.1 in
    absurd (cc)

-- what is written there is the number of another place
pub never_other : (spots : List Spot) (rows : List (List ℕ)) (p : Place) (n : ℕ) (s : Spot) → AreNumbers spots rows → number_at rows p ≡ Some n → slice_get spots n ≡ Some s → (s.place ≡ p → ⊥)
    → (k : ℕ) → IsSpot spots k p → ⊥
never_other spots rows p n s are at is other k f =
    let h : ◌≡◌ {A = Option ℕ} (Some n) (Some k) = sym at ∙ are.whole p k f in
    let same : n ≡ k = cc in
    let there : ◌≡◌ {A = Option Spot} (Some s) (Some f.0) = sym is ∙ ap (slice_get spots) same ∙ f.1 in
    let one : s ≡ f.0 = cc in
    other (ap (λ (x : Spot). x.place) one ∙ f.2)

-- a place without a number is not found
pub finds_none : (spots : List Spot) (p : Place) (r : Option ℕ) → r ≡ None → ((k : ℕ) → IsSpot spots k p → ⊥) → (k : ℕ) → (r ≡ Some k → IsSpot spots k p) × (IsSpot spots k p → r ≡ Some k)
finds_none spots p r none never k = (λ h. (let x : ◌≡◌ {A = Option ℕ} None (Some k) = sym none ∙ h in absurd (cc)), λ f. absurd (never k f))

-- a place is found by the number that is written there
pub finds_number : (spots : List Spot) (rows : List (List ℕ)) (p : Place) (n : ℕ) (s : Spot) → AreNumbers spots rows → number_at rows p ≡ Some n → slice_get spots n ≡ Some s → s.place ≡ p
    → (k : ℕ) → (◌≡◌ {A = Option ℕ} (Some n) (Some k) → IsSpot spots k p) × (IsSpot spots k p → ◌≡◌ {A = Option ℕ} (Some n) (Some k))
finds_number spots rows p n s are at is here k =
    (λ h. (let same : n ≡ k = cc in (s, ap (slice_get spots) (sym same) ∙ is, here)), λ f. sym at ∙ are.whole p k f)

-- the places from n on have their positions
pub record IndexFrom (places : List Place) (spots : List Spot) (n : ℕ) : Type 0 where
  pub owned : (k : ℕ) (s : Spot) → slice_get spots k ≡ Some s → slice_get places s.element ≡ Some s.place
  pub whole : (k : ℕ) (p : Place) → n ≤ k → slice_get places k ≡ Some p → (m : ℕ) × IsSpot spots m p

pub index_none : (places : List Place) (spots : List Spot) → spots ≡ [] → IndexFrom places spots (length places)
index_none places spots e = record {
  owned = λ k s at. absurd (let h = sym (ap (λ (x : List Spot). slice_get x k) e) ∙ at in cc);
  whole = λ k p le at. absurd (let lt = slice_get_within places k p at in omega arith);
}

pub index_before : (places : List Place) (old new : List Spot) (n m : ℕ) (p : Place) → 0 < n → slice_get places (n - 1) ≡ Some p
    → IsSpot new m p → ((k : ℕ) (s : Spot) → slice_get old k ≡ Some s → slice_get new k ≡ Some s)
    → ((k : ℕ) (s : Spot) → slice_get new k ≡ Some s → (slice_get old k ≡ Some s) ⊎ (s ≡ record { place = p; element = n - 1 }))
    → IndexFrom places old n → IndexFrom places new (n - 1)
index_before places old new n m p above at found kept each done = record {
  owned = λ k s at'. elim (each k s at') [ inl was ↦ done.owned k s was | inr e ↦ rw e at ];
  whole = λ k q le at'. elim (cases_eq k (n - 1)) [
    | inl e ↦ (m, rw (one_at places k (n - 1) q p e at' at) found)
    | inr ne ↦ (let w = done.whole k q (omega arith) at' in (w.0, (w.1.0, kept w.0 w.1.0 w.1.1, w.1.2)))
  ];
}

pub index_all : (places : List Place) (spots : List Spot) (n : ℕ) → n ≤ 0 → IndexFrom places spots n → IsIndex places spots
index_all places spots n le done = record { owned = done.owned; whole = λ k p at. done.whole k p (omega arith) at }

-- an index finds the places that it is made of
pub finds_rail : (places : List Place) (spots : List Spot) → IsIndex places spots → (p : Place) (found : Option ℕ) → ((k : ℕ) → (found ≡ Some k) ↔ IsSpot spots k p) → (b : Bool) → b ≡ is_some found
    → IsTrue b ↔ Contains places p
finds_rail places spots index p None finds b is = (
  λ on. absurd (cc),
  λ in'.
      let there = at_contains places p in' in
      let w = index.whole there.0 p there.1 in
      let clash : ◌≡◌ {A = Option ℕ} None (Some w.0) = (finds w.0).1 w.1 in
      absurd (cc),
)
finds_rail places spots index p (Some k) finds b is = (
  λ on. (let spot = (finds k).0 refl in contains_at places spot.0.element p (index.owned k spot.0 spot.1 ∙ ap Some spot.2)),
  λ in'. is,
)

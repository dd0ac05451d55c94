-- The rows of a network, from its topmost to its lowest.
use Rattle.std.proofs.Common.{◌≡◌, ◌⊎◌, inl, inr, ℕ, ◌+◌, ◌<◌, ◌≤◌, max, min, List, Some, Contains, slice_get, refl, sym, ap, ◌∙◌, subst, arith}
use Rattle.std.proofs.lemmas.Bool.{cases_eq, cases_lt}
use Rattle.lists.proofs.Places.{some_same}
use Rattle.lists.proofs.Members.{contains_at, any_found}
use Rattle.drawings.specs.declared.place.Place.{Place}
use Rattle.drawings.specs.declared.drawn_box.DrawnBox.{DrawnBox}
use Rattle.drawings.specs.declared.drawn_box.DrawnPin.{DrawnPin}
use Rattle.drawings.specs.declared.drawn_box.Side.TheVariants.{Left, Right}
use Rattle.network.specs.declared.element.Element.{Element}
use Rattle.network.specs.declared.element.Element.TheVariants.{Wire, Join, Upright, Contact, Coil, Box}
use Rattle.network.specs.Links.{place}
use Rattle.network.specs.Apart.{Has, first_place}
use Rattle.power_flow.proofs.Walks.Leading.{pin_has}

-- no pin of the first n + 1 lies lower
pub pins_below : (pins : List DrawnPin) (n : ℕ) (pin : DrawnPin) (old new : ℕ) → slice_get pins n ≡ Some pin → new ≡ max old pin.row
    → ((j : ℕ) (q : DrawnPin) → j < n → slice_get pins j ≡ Some q → q.row ≤ old) → (j : ℕ) (q : DrawnPin) → j < n + 1 → slice_get pins j ≡ Some q → q.row ≤ new
pins_below pins n pin old new at is were j q lt at' = elim (cases_eq j n) [
  | inl same ↦ (let one : q ≡ pin = some_same (sym at' ∙ ap (slice_get pins) same ∙ at) in let r = ap (λ (x : DrawnPin). x.row) one in omega arith)
  | inr ne ↦ (let h = were j q (omega arith) at' in omega arith)
]

abbrev pub IsReached : DrawnBox → ℕ → Type 0
IsReached b lowest = (lowest ≡ b.top) ⊎ ((j : ℕ) × (pin : DrawnPin) × (slice_get b.pins j ≡ Some pin) × (pin.row ≡ lowest))

pub pins_reached : (b : DrawnBox) (n : ℕ) (pin : DrawnPin) (old new : ℕ) → slice_get b.pins n ≡ Some pin → new ≡ max old pin.row → IsReached b old → IsReached b new
pins_reached b n pin old new at is was = elim (cases_lt old pin.row) [
  | inl lt ↦ inr (n, pin, at, omega arith)
  | inr le ↦ (let same : new ≡ old = omega arith in rw same was)
]

pub box_below : (b : DrawnBox) (lowest : ℕ) → b.top ≤ lowest → ((j : ℕ) (q : DrawnPin) → slice_get b.pins j ≡ Some q → q.row ≤ lowest) → (p : Place) → Has (Box b) p → p.row ≤ lowest
box_below b lowest top pins p (inl first) = let r = ap (λ (x : Place). x.row) first in omega arith
box_below b lowest top pins p (inr (inl gives)) =
    let found = any_found (λ (pin : DrawnPin). (pin.side ≡ Right) × (pin.row ≡ p.row)) b.pins gives.1 in
    let h = pins found.0 found.1 found.2 in let r = found.3.1 in omega arith
box_below b lowest top pins p (inr (inr (inl takes))) =
    let found = any_found (λ (pin : DrawnPin). (pin.side ≡ Left) × (pin.row ≡ p.row)) b.pins takes.1 in
    let h = pins found.0 found.1 found.2 in let r = found.3.1 in omega arith
box_below b lowest top pins p (inr (inr (inr stands))) = absurd stands

pub box_reached : (b : DrawnBox) (lowest : ℕ) → IsReached b lowest → (p : Place) × Has (Box b) p × (p.row ≡ lowest)
box_reached b lowest (inl top) = (place b.top b.left, inl refl, sym top)
box_reached b lowest (inr found) = let has = pin_has b found.1 (contains_at b.pins found.0 found.1 found.2) in (has.0, has.1, has.2 ∙ found.3)

-- an element that is no box lies in one row
pub plain_below : (e : Element) → ((b : DrawnBox) → e ≡ Box b → ⊥) → (p : Place) → Has e p → p.row ≤ (first_place e).row
plain_below (Box b) plain p has = absurd (plain b refl)
plain_below (Wire q) plain p (inl h) = let r = ap (λ (x : Place). x.row) h in omega arith
plain_below (Wire q) plain p (inr (inl h)) = let r = ap (λ (x : Place). x.row) h in omega arith
plain_below (Wire q) plain p (inr (inr (inl h))) = let r = ap (λ (x : Place). x.row) h in omega arith
plain_below (Wire q) plain p (inr (inr (inr h))) = absurd h
plain_below (Join q) plain p (inl h) = let r = ap (λ (x : Place). x.row) h in omega arith
plain_below (Join q) plain p (inr (inl h)) = let r = ap (λ (x : Place). x.row) h in omega arith
plain_below (Join q) plain p (inr (inr (inl h))) = let r = ap (λ (x : Place). x.row) h in omega arith
plain_below (Join q) plain p (inr (inr (inr h))) = let r = ap (λ (x : Place). x.row) h in omega arith
plain_below (Upright q) plain p (inl h) = let r = ap (λ (x : Place). x.row) h in omega arith
plain_below (Upright q) plain p (inr (inl h)) = absurd h
plain_below (Upright q) plain p (inr (inr (inl h))) = absurd h
plain_below (Upright q) plain p (inr (inr (inr h))) = let r = ap (λ (x : Place). x.row) h in omega arith
plain_below (Contact c) plain p (inl h) = let r = ap (λ (x : Place). x.row) h in omega arith
plain_below (Contact c) plain p (inr (inl h)) = let r = h.0 in omega arith
plain_below (Contact c) plain p (inr (inr (inl h))) = let r = h.0 in omega arith
plain_below (Contact c) plain p (inr (inr (inr h))) = absurd h
plain_below (Coil c) plain p (inl h) = let r = ap (λ (x : Place). x.row) h in omega arith
plain_below (Coil c) plain p (inr (inl h)) = let r = h.0 in omega arith
plain_below (Coil c) plain p (inr (inr (inl h))) = let r = h.0 in omega arith
plain_below (Coil c) plain p (inr (inr (inr h))) = absurd h

-- a place of the elements in this row
pub record IsLowest (elements : List Element) (row : ℕ) : Type 0 where
  pub element : Element
  pub at : Place
  pub in_list : Contains elements element
  pub has : Has element at
  pub is : at.row ≡ row

-- an element that begins in this row
pub record IsTopmost (elements : List Element) (row : ℕ) : Type 0 where
  pub element : Element
  pub in_list : Contains elements element
  pub is : (first_place element).row ≡ row

pub topmost_more : (elements : List Element) (n : ℕ) (e : Element) (old new : ℕ) → slice_get elements n ≡ Some e → new ≡ min old (first_place e).row → IsTopmost elements old → IsTopmost elements new
topmost_more elements n e old new at is was = elim (cases_lt (first_place e).row old) [
  | inl lt ↦ record { element = e; in_list = contains_at elements n e at; is = omega arith }
  | inr le ↦ record { element = was.element; in_list = was.in_list; is = (let h = was.is in omega arith) }
]

pub above_more : (elements : List Element) (n : ℕ) (e : Element) (old new : ℕ) → slice_get elements n ≡ Some e → new ≡ min old (first_place e).row
    → ((j : ℕ) (f : Element) → j < n → slice_get elements j ≡ Some f → old ≤ (first_place f).row) → (j : ℕ) (f : Element) → j < n + 1 → slice_get elements j ≡ Some f → new ≤ (first_place f).row
above_more elements n e old new at is were j f lt at' = elim (cases_eq j n) [
  | inl same ↦ (let one : f ≡ e = some_same (sym at' ∙ ap (slice_get elements) same ∙ at) in let r = ap (λ (x : Element). (first_place x).row) one in omega arith)
  | inr ne ↦ (let h = were j f (omega arith) at' in omega arith)
]

pub lowest_more : (elements : List Element) (n : ℕ) (e : Element) (here old new : ℕ) → slice_get elements n ≡ Some e → new ≡ max old here
    → ((p : Place) × Has e p × (p.row ≡ here)) → IsLowest elements old → IsLowest elements new
lowest_more elements n e here old new at is reached was = elim (cases_lt old here) [
  | inl lt ↦ record { element = e; at = reached.0; in_list = contains_at elements n e at; has = reached.1; is = (let h = reached.2 in omega arith) }
  | inr le ↦ record { element = was.element; at = was.at; in_list = was.in_list; has = was.has; is = (let h = was.is in omega arith) }
]

pub below_more : (elements : List Element) (n : ℕ) (e : Element) (here old new : ℕ) → slice_get elements n ≡ Some e → new ≡ max old here
    → ((p : Place) → Has e p → p.row ≤ here)
    → ((j : ℕ) (f : Element) (p : Place) → j < n → slice_get elements j ≡ Some f → Has f p → p.row ≤ old)
    → (j : ℕ) (f : Element) (p : Place) → j < n + 1 → slice_get elements j ≡ Some f → Has f p → p.row ≤ new
below_more elements n e here old new at is below were j f p lt at' has = elim (cases_eq j n) [
  | inl same ↦
      let one : f ≡ e = some_same (sym at' ∙ ap (slice_get elements) same ∙ at) in
      let P : Element → Type 0 = λ x. Has x p in
      let h = below p (subst P one has) in omega arith
  | inr ne ↦ (let h = were j f p (omega arith) at' has in omega arith)
]

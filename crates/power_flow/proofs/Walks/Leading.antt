-- The ends of rows tell whether an element leads to a place.
use Rattle.std.proofs.Common.{◌≡◌, ◌⊎◌, inl, inr, ℕ, zero, suc, ◌+◌, ◌-◌, ◌<◌, ◌≤◌, max, List, Some, Contains, slice_get, get_or, length, set, replicate, refl, sym, ap, ◌∙◌, subst, arith}
use Rattle.std.proofs.lemmas.Bool.{cases_eq, cases_lt}
use Rattle.std.proofs.lemmas.List.{get_or-set_same, get_or-set_other}
use Rattle.std.proofs.lemmas.Option.{slice_get_within, slice_get-get_or}
use Rattle.lists.proofs.Places.{some_same}
use Rattle.lists.proofs.Members.{contains_at, any_at, any_found}
use Rattle.drawings.specs.declared.place.Place.{Place}
use Rattle.drawings.specs.declared.drawn_box.DrawnBox.{DrawnBox}
use Rattle.drawings.specs.declared.drawn_box.DrawnPin.{DrawnPin}
use Rattle.drawings.specs.declared.drawn_box.Side.{Side}
use Rattle.drawings.specs.declared.drawn_box.Side.TheVariants.{Left, Right}
use Rattle.network.specs.declared.element.Element.{Element}
use Rattle.network.specs.declared.element.Element.TheVariants.{Wire, Join, Upright, Contact, Coil, Box}
use Rattle.network.specs.Links.{Diagram, Gives, place}
use Rattle.network.specs.Apart.{Has, first_place}
use Rattle.network.specs.GraphValue.{IsSoundNetwork}
use Rattle.power_flow.specs.Steps.RowEnds.{AreRows, IsGiven, IsGivenByPin, AreEnds, AreEndsTo, AreEndsWithin, TellsLed}
use Rattle.network.proofs.Elements.{place_same}

-- a place that gives state isn't left of where its element begins
gives_after : (d : Diagram) → IsSoundNetwork d → (e : Element) (p : Place) → Contains d.elements e → Gives e p → (first_place e).column ≤ p.column
gives_after d sound (Wire q) p in' g = let c = ap (λ (x : Place). x.column) g in omega arith
gives_after d sound (Join q) p in' g = let c = ap (λ (x : Place). x.column) g in omega arith
gives_after d sound (Upright q) p in' g = absurd g
gives_after d sound (Contact c) p in' g = g.1
gives_after d sound (Coil c) p in' g = g.1
gives_after d sound (Box b) p in' g = let wide = sound.wide b in' in let column = g.0 in omega arith

-- elements come by column
pub by_column : (d : Diagram) → IsSoundNetwork d → (i j : ℕ) (e f : Element) → i ≤ j → slice_get d.elements i ≡ Some e → slice_get d.elements j ≡ Some f
    → (first_place e).column ≤ (first_place f).column
by_column d sound i j e f le at at' = elim (cases_eq i j) [
  | inl same ↦ (let one : e ≡ f = some_same (sym at ∙ ap (slice_get d.elements) same ∙ at') in let c = ap (λ (x : Element). (first_place x).column) one in omega arith)
  | inr ne ↦ elim (sound.order i j e f (omega arith) at at') [ inl lt ↦ omega arith | inr same ↦ (let c = same.0 in omega arith) ]
]

module _ (d : Diagram) (sound : IsSoundNetwork d) (top k : ℕ) (e : Element) (at : Place) (there : slice_get d.elements k ≡ Some e) (has : Has e at)
    (first : (first_place e).column ≡ at.column) where
  -- what gives state on the left comes before
  before_it : (j : ℕ) (f : Element) (p : Place) → slice_get d.elements j ≡ Some f → Gives f p → at.column ≡ p.column + 1 → j < k
  before_it j f p at' gives column = elim (cases_lt j k) [
    | inl lt ↦ lt
    | inr le ↦
        let after = by_column d sound k j e f le there at' in
        let behind = gives_after d sound f p (contains_at d.elements j f at') gives in
        absurd (omega arith)
  ]

  -- no element before gives state in the row at the place or behind it
  not_behind : (j : ℕ) (f : Element) (p : Place) → j < k → slice_get d.elements j ≡ Some f → Gives f p → p.row ≡ at.row → at.column ≤ p.column → ⊥
  not_behind j f p lt at' gives row behind =
      let left = by_column d sound j k f e (omega arith) at' there in
      go f at' gives (omega arith)
    where
      one : (f : Element) → slice_get d.elements j ≡ Some f → Has f at → ⊥
      one f at' h = let same = sound.apart.elements j k f e at at' there h has in omega arith

      go : (f : Element) → slice_get d.elements j ≡ Some f → Gives f p → (first_place f).column ≤ at.column → ⊥
      go (Wire q) at' g left =
          let c = ap (λ (x : Place). x.column) g in let r = ap (λ (x : Place). x.row) g in
          one (Wire q) at' (inl (place_same q at (omega arith) (omega arith)))
      go (Join q) at' g left =
          let c = ap (λ (x : Place). x.column) g in let r = ap (λ (x : Place). x.row) g in
          one (Join q) at' (inl (place_same q at (omega arith) (omega arith)))
      go (Upright q) at' g left = absurd g
      go (Contact c) at' g left = let r = g.0 in let end = g.2 in one (Contact c) at' (inr (inl (sym row ∙ r, left, omega arith)))
      go (Coil c) at' g left = let r = g.0 in let end = g.2 in one (Coil c) at' (inr (inl (sym row ∙ r, left, omega arith)))
      go (Box b) at' g left =
          let column = g.0 in
          let found = any_found (λ (pin : DrawnPin). (pin.side ≡ Right) × (pin.row ≡ p.row)) b.pins g.1 in
          let is = found.3.1 in
          let pins = sound.pins b found.1 (contains_at d.elements j (Box b) at') (contains_at b.pins found.0 found.1 found.2) in
          let same = sound.clear j k b e at at' there has (omega arith) (omega arith) left (omega arith) in
          omega arith

  pub tells_led : (ends : List ℕ) → top ≤ at.row → AreEndsTo d top k ends → TellsLed d top ends at
  tells_led ends low are = (
    λ led.
        let found = any_found (λ x. Gives x led.from) d.elements led.gives in
        let before = before_it found.0 found.1 led.from found.2 found.3 led.column in
        let row = led.row in
        let column = led.column in
        let given : IsGiven d k led.from = record { number = found.0; before = before; element = found.1; at = found.2; gives = found.3 } in
        let above : led.from.column < get_or ends (at.row - top) 0 = (let h = are.above led.from given in rw (ap (λ r. r - top) row) h) in
        let last = are.from (at.row - top) (omega arith) in
        let here : last.0.row ≡ at.row = (let h = last.2 in omega arith) in
        let not_more : last.0.column < at.column = elim (cases_lt last.0.column at.column) [
          | inl lt ↦ lt
          | inr le ↦ absurd (not_behind last.1.number last.1.element last.0 last.1.before last.1.at last.1.gives here le)
        ] in
        let is = last.3 in
        (omega arith, omega arith),
    λ h.
        let column = h.0 in
        let is = h.1 in
        let last = are.from (at.row - top) (omega arith) in
        let r = last.2 in
        let c = last.3 in
        record {
          from = last.0;
          row = omega arith;
          column = omega arith;
          gives = any_at (λ x. Gives x last.0) d.elements last.1.number last.1.element last.1.at last.1.gives;
        },
  )

-- nothing has ended in any row
pub ends_none : (d : Diagram) (top rows : ℕ) → AreEndsTo d top 0 (replicate rows 0)
ends_none d top rows = record {
  above = λ p given. (let h = given.before in absurd (omega arith));
  from = λ r more. (let h = zeros rows r in absurd (omega arith));
}
  where
    zeros : (n r : ℕ) → ◌≡◌ {A = ℕ} (get_or (replicate n 0) r 0) 0
    zeros zero r = refl
    zeros (suc n) zero = refl
    zeros (suc n) (suc r) = zeros n r

-- one more place at which a row ends
module _ (Old New : Place → Type 0) (top : ℕ) (ends : List ℕ) (at : Place) (low : top ≤ at.row) (within : at.row - top < length ends)
    (cases : (p : Place) → New p → Old p ⊎ ((p.row ≡ at.row) × (p.column ≤ at.column))) (kept : (p : Place) → Old p → New p) (here : New at) (are : AreEnds Old top ends) where
  abbrev row : ℕ
  row = at.row - top

  abbrev now : ℕ
  now = max (get_or ends (at.row - top) 0) (at.column + 1)

  same : (r : ℕ) → r ≡ row → get_or (set ends row now) r 0 ≡ now
  same r is = ap (λ x. get_or (set ends row now) x 0) is ∙ get_or-set_same ends row now 0 within

  above_set : (p : Place) → New p → p.column < get_or (set ends row now) (p.row - top) 0
  above_set p new = elim (cases p new) [
    | inl old ↦ elim (cases_eq (p.row - top) row) [
      | inl is ↦ (let h = are.above p old in let s = same (p.row - top) is in let e = ap (λ x. get_or ends x 0) is in omega arith)
      | inr ne ↦ (let h = are.above p old in let s = get_or-set_other ends row (p.row - top) now 0 ne in omega arith)
    ]
    | inr more ↦ (let r = more.0 in let c = more.1 in let s = same (p.row - top) (ap (λ x. x - top) r) in omega arith)
  ]

  from_set : (r : ℕ) → 0 < get_or (set ends row now) r 0 → (p : Place) × New p × (p.row ≡ top + r) × (get_or (set ends row now) r 0 ≡ p.column + 1)
  from_set r more = elim (cases_eq r row) [
    | inl is ↦ elim (cases_lt (get_or ends row 0) (at.column + 1)) [
      | inl lt ↦ (let s = same r is in (at, here, omega arith, omega arith))
      | inr le ↦
          let s = same r is in
          let last = are.from row (omega arith) in
          let was = last.3 in
          let lies = last.2 in
          (last.0, kept last.0 last.1, omega arith, omega arith)
    ]
    | inr ne ↦
        let s = get_or-set_other ends row r now 0 ne in
        let last = are.from r (omega arith) in
        let was = last.3 in
        (last.0, kept last.0 last.1, last.2, omega arith)
  ]

  pub ends_more : AreEnds New top (set ends (at.row - top) (max (get_or ends (at.row - top) 0) (at.column + 1)))
  ends_more = record { above = above_set; from = from_set }

-- the ends are of the same places
pub ends_same : (Old New : Place → Type 0) (top : ℕ) (ends : List ℕ) → ((p : Place) → New p → Old p) → ((p : Place) → Old p → New p) → AreEnds Old top ends → AreEnds New top ends
ends_same Old New top ends back kept are = record {
  above = λ p new. are.above p (back p new);
  from = λ r more. (let last = are.from r more in (last.0, kept last.0 last.1, last.2, last.3));
}

-- what one of the first n elements gives, one of the first n + 1 gives
pub given_kept : (d : Diagram) (n : ℕ) (p : Place) → IsGiven d n p → IsGiven d (n + 1) p
given_kept d n p g = record { number = g.number; before = (let h = g.before in omega arith); element = g.element; at = g.at; gives = g.gives }

pub given_here : (d : Diagram) (n : ℕ) (e : Element) (p : Place) → slice_get d.elements n ≡ Some e → Gives e p → IsGiven d (n + 1) p
given_here d n e p at gives = record { number = n; before = omega arith; element = e; at = at; gives = gives }

pub given_cases : (d : Diagram) (n : ℕ) (e : Element) (p : Place) → slice_get d.elements n ≡ Some e → IsGiven d (n + 1) p → IsGiven d n p ⊎ Gives e p
given_cases d n e p at g = elim (cases_eq g.number n) [
  | inl is ↦
      let one : g.element ≡ e = some_same (sym g.at ∙ ap (slice_get d.elements) is ∙ at) in
      let P : Element → Type 0 = λ x. Gives x p in
      inr (subst P one g.gives)
  | inr ne ↦ (let h = g.before in inl record { number = g.number; before = omega arith; element = g.element; at = g.at; gives = g.gives })
]

-- one more symbol, or wire, with the last place at which it gives state
pub symbol_more : (d : Diagram) (top k : ℕ) (ends : List ℕ) (e : Element) (at : Place) → slice_get d.elements k ≡ Some e → top ≤ at.row → at.row - top < length ends
    → ((p : Place) → Gives e p → (p.row ≡ at.row) × (p.column ≤ at.column)) → Gives e at → AreEndsTo d top k ends
    → AreEndsTo d top (k + 1) (set ends (at.row - top) (max (get_or ends (at.row - top) 0) (at.column + 1)))
symbol_more d top k ends e at there low within last gives are =
    ends_more (IsGiven d k) (IsGiven d (k + 1)) top ends at low within
    (λ p g. elim (given_cases d k e p there g) [ inl old ↦ inl old | inr here ↦ inr (last p here) ])
    (λ p g. given_kept d k p g) (given_here d k e at there gives) are

-- one more element that gives no state
pub none_more : (d : Diagram) (top k : ℕ) (ends : List ℕ) (e : Element) → slice_get d.elements k ≡ Some e → ((p : Place) → Gives e p → ⊥) → AreEndsTo d top k ends → AreEndsTo d top (k + 1) ends
none_more d top k ends e there none are =
    ends_same (IsGiven d k) (IsGiven d (k + 1)) top ends
    (λ p g. elim (given_cases d k e p there g) [ inl old ↦ old | inr here ↦ absurd (none p here) ]) (λ p g. given_kept d k p g) are

-- a pin gives state at its place on the right side
pub pin_gives : (b : DrawnBox) (n : ℕ) (p : Place) → IsGivenByPin b n p → Gives (Box b) p
pin_gives b n p g = (g.column, any_at (λ (pin : DrawnPin). (pin.side ≡ Right) × (pin.row ≡ p.row)) b.pins g.number g.pin g.at (g.side, g.row))

pub gives_pin : (b : DrawnBox) (p : Place) → Gives (Box b) p → IsGivenByPin b (length b.pins) p
gives_pin b p g =
    let found = any_found (λ (pin : DrawnPin). (pin.side ≡ Right) × (pin.row ≡ p.row)) b.pins g.1 in
    record { number = found.0; before = slice_get_within b.pins found.0 found.1 found.2; pin = found.1; at = found.2; side = found.3.0; row = found.3.1; column = g.0 }

-- one more box, once all its pins are noted
pub box_more : (d : Diagram) (top k : ℕ) (ends : List ℕ) (b : DrawnBox) → slice_get d.elements k ≡ Some (Box b) → AreEndsWithin d top k b (length b.pins) ends → AreEndsTo d top (k + 1) ends
box_more d top k ends b there are =
    ends_same (λ p. IsGiven d k p ⊎ IsGivenByPin b (length b.pins) p) (IsGiven d (k + 1)) top ends
    (λ p g. elim (given_cases d k (Box b) p there g) [ inl old ↦ inl old | inr here ↦ inr (gives_pin b p here) ])
    (λ p g. elim g [ inl old ↦ given_kept d k p old | inr here ↦ given_here d k (Box b) p there (pin_gives b (length b.pins) p here) ])
    are

pin_kept : (b : DrawnBox) (n : ℕ) (p : Place) → IsGivenByPin b n p → IsGivenByPin b (n + 1) p
pin_kept b n p g = record { number = g.number; before = (let h = g.before in omega arith); pin = g.pin; at = g.at; side = g.side; row = g.row; column = g.column }

pin_cases : (b : DrawnBox) (n : ℕ) (pin : DrawnPin) (p : Place) → slice_get b.pins n ≡ Some pin → IsGivenByPin b (n + 1) p → IsGivenByPin b n p ⊎ ((pin.side ≡ Right) × (pin.row ≡ p.row) × (p.column ≡ b.right))
pin_cases b n pin p at g = elim (cases_eq g.number n) [
  | inl is ↦
      let one : g.pin ≡ pin = some_same (sym g.at ∙ ap (slice_get b.pins) is ∙ at) in
      let P : DrawnPin → Type 0 = λ x. (x.side ≡ Right) × (x.row ≡ p.row) × (p.column ≡ b.right) in
      inr (subst P one (g.side, g.row, g.column))
  | inr ne ↦ (let h = g.before in inl record { number = g.number; before = omega arith; pin = g.pin; at = g.at; side = g.side; row = g.row; column = g.column })
]

-- one more pin of the left side, or of the right
pub pins_more_left : (d : Diagram) (top k : ℕ) (ends : List ℕ) (b : DrawnBox) (n : ℕ) (pin : DrawnPin) → slice_get b.pins n ≡ Some pin → pin.side ≡ Left
    → AreEndsWithin d top k b n ends → AreEndsWithin d top k b (n + 1) ends
pins_more_left d top k ends b n pin at side are =
    ends_same (λ p. IsGiven d k p ⊎ IsGivenByPin b n p) (λ p. IsGiven d k p ⊎ IsGivenByPin b (n + 1) p) top ends
    (λ p g. elim g [
      | inl old ↦ inl old
      | inr new ↦ elim (pin_cases b n pin p at new) [ inl old ↦ inr old | inr here ↦ (let clash : Left ≡ Right = sym side ∙ here.0 in absurd (cc)) ]
    ])
    (λ p g. elim g [ inl old ↦ inl old | inr old ↦ inr (pin_kept b n p old) ])
    are

pub pins_more_right : (d : Diagram) (top k : ℕ) (ends : List ℕ) (b : DrawnBox) (n : ℕ) (pin : DrawnPin) → slice_get b.pins n ≡ Some pin → pin.side ≡ Right
    → top ≤ pin.row → pin.row - top < length ends
    → AreEndsWithin d top k b n ends → AreEndsWithin d top k b (n + 1) (set ends (pin.row - top) (max (get_or ends (pin.row - top) 0) (b.right + 1)))
pins_more_right d top k ends b n pin at side low within are =
    ends_more (λ p. IsGiven d k p ⊎ IsGivenByPin b n p) (λ p. IsGiven d k p ⊎ IsGivenByPin b (n + 1) p) top ends (place pin.row b.right) low within
    (λ p g. elim g [
      | inl old ↦ inl (inl old)
      | inr new ↦ elim (pin_cases b n pin p at new) [ inl old ↦ inl (inr old) | inr here ↦ (let c = here.2 in inr (sym here.1, omega arith)) ]
    ])
    (λ p g. elim g [ inl old ↦ inl old | inr old ↦ inr (pin_kept b n p old) ])
    (inr record { number = n; before = omega arith; pin = pin; at = at; side = side; row = refl; column = refl })
    are

-- a pin of a box has a place at which state is given or taken
pub pin_has : (b : DrawnBox) (pin : DrawnPin) → Contains b.pins pin → (p : Place) × Has (Box b) p × (p.row ≡ pin.row)
pin_has b pin in' = go pin.side refl
  where
    go : (s : Side) → pin.side ≡ s → (p : Place) × Has (Box b) p × (p.row ≡ pin.row)
    go Left is = (place pin.row b.left, inr (inr (inl (refl, (in'.0, pin, in'.1, in'.2, (is, refl))))), refl)
    go Right is = (place pin.row b.right, inr (inl (refl, (in'.0, pin, in'.1, in'.2, (is, refl)))), refl)

-- where an element has a place, a row stands for it
pub in_rows : (elements : List Element) (top rows : ℕ) → AreRows elements top rows → (k : ℕ) (e : Element) (p : Place) → slice_get elements k ≡ Some e → Has e p → (top ≤ p.row) × (p.row - top < rows)
in_rows elements top rows are k e p at has = let h = are e p (contains_at elements k e at) has in let low = h.0 in let high = h.1 in (low, omega arith)

pub pins_in : (elements : List Element) (top rows : ℕ) → AreRows elements top rows → (k : ℕ) (b : DrawnBox) → slice_get elements k ≡ Some (Box b)
    → (pin : DrawnPin) → Contains b.pins pin → (top ≤ pin.row) × (pin.row < top + rows)
pins_in elements top rows are k b at pin in' =
    let has = pin_has b pin in' in
    let h = are (Box b) has.0 (contains_at elements k (Box b) at) has.1 in
    let row = has.2 in let low = h.0 in let high = h.1 in (omega arith, omega arith)

pub pin_at : (pins : List DrawnPin) (n : ℕ) (pin : DrawnPin) → n < length pins → pin ≡ get_or pins n pin → slice_get pins n ≡ Some pin
pin_at pins n pin lt is = slice_get-get_or pins n pin lt ∙ ap Some (sym is)

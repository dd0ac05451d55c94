-- A pass through the columns of a network: what the states of the rows say after each element.
use Rattle.std.proofs.Common.{◌≡◌, ℕ, ◌+◌, ◌-◌, ◌<◌, ◌≤◌, ◌⊎◌, ◌↔◌, inl, inr, List, [], ◌∷◌, Bool, true, false, Some, IsTrue, Any, Contains, slice_get, length, arith, refl, sym, ap, ◌∙◌, subst}
use Rattle.std.proofs.lemmas.Bool.{cases_eq, cases_lt}
use Rattle.lists.proofs.Places.{some_same}
use Rattle.lists.proofs.Members.{contains_at, any_at, any_found}
use Rattle.drawings.specs.declared.place.Place.{Place}
use Rattle.drawings.specs.declared.drawn_box.DrawnBox.{DrawnBox}
use Rattle.drawings.specs.declared.drawn_box.Side.TheVariants.{Left, Right}
use Rattle.network.specs.declared.element.Element.{Element}
use Rattle.network.specs.declared.element.Element.TheVariants.{Wire, Join, Upright, Contact, Coil, Box}
use Rattle.network.specs.Links.{Diagram, place, IsSymbolPlace, Gives, Takes, Stands}
use Rattle.network.specs.Apart.{first_place, Has}
use Rattle.network.specs.GraphValue.{IsSoundNetwork}
use Rattle.power_flow.specs.Power.{IsWalk, IsOn, SymbolEndsAt, EndsAt}
use Rattle.scan_steps.specs.Conducting.{bit_at}
use Rattle.power_flow.specs.Steps.Columns.{IsStop, IsLed, StandsIn, IsUpright}
use Rattle.power_flow.proofs.Walks.PowerWalks.{on_source, on_step}
use Rattle.power_flow.proofs.Walks.OnPlaces as walking
use Rattle.power_flow.proofs.Walks.OnPlaces.{ends_has, Lets, Out, Comes}
use Rattle.network.proofs.Elements.{place_same, stands_first}

-- the state of the row of p
abbrev pub at_row : List Bool → ℕ → Place → Bool
at_row rows top p = bit_at rows (p.row - top)

-- an element that isn't before n begins right of q, and takes state from there
pub record IsNeeded (d : Diagram) (n : ℕ) (q : Place) : Type 0 where
  pub index : ℕ
  pub from : n ≤ index
  pub element : Element
  pub at : slice_get d.elements index ≡ Some element
  pub spot : Place
  pub takes : Takes element spot
  pub row : spot.row ≡ q.row
  pub column : spot.column ≡ q.column + 1
  pub begins : spot.column ≡ (first_place element).column

-- the upright of q goes down to an element that isn't before n
pub record IsPending (d : Diagram) (n : ℕ) (q : Place) : Type 0 where
  pub index : ℕ
  pub from : n ≤ index
  pub element : Element
  pub at : slice_get d.elements index ≡ Some element
  pub row : ℕ
  pub stands : Stands element (place row q.column)
  pub below : q.row ≤ row
  pub each : (r : ℕ) → q.row ≤ r → r ≤ row → StandsIn d r q.column

-- the places whose rows an element's own steps change
abbrev pub Touches : Element → Place → Type 0
Touches (Wire at) x = at ≡ x
Touches (Join at) x = at ≡ x
Touches (Upright at) x = at ≡ x
Touches (Contact c) x = place c.row c.column ≡ x
Touches (Coil c) x = place c.row c.column ≡ x
Touches (Box b) x = Takes (Box b) x ⊎ Gives (Box b) x

weaker_needed : (d : Diagram) (n : ℕ) (q : Place) → IsNeeded d (n + 1) q → IsNeeded d n q
weaker_needed d n q needed = record {
  index = needed.index;
  from = (let from = needed.from in omega arith);
  element = needed.element;
  at = needed.at;
  spot = needed.spot;
  takes = needed.takes;
  row = needed.row;
  column = needed.column;
  begins = needed.begins;
}

weaker_pending : (d : Diagram) (n : ℕ) (q : Place) → IsPending d (n + 1) q → IsPending d n q
weaker_pending d n q pending = record {
  index = pending.index;
  from = (let from = pending.from in omega arith);
  element = pending.element;
  at = pending.at;
  row = pending.row;
  stands = pending.stands;
  below = pending.below;
  each = pending.each;
}

module _ (d : Diagram) (top count : ℕ) (conducts : ℕ → Bool) (IsSource : Place → Type 0)
    (sound : IsSoundNetwork d)
    (rows_in : (e : Element) (p : Place) → Contains d.elements e → Has e p → (top ≤ p.row) × (p.row < top + count))
    (no_source : (k : ℕ) (e : Element) (p : Place) → slice_get d.elements k ≡ Some e → IsStop e p → IsSource p → ⊥)
    (rail_source : (p : Place) → Contains d.rails p → IsSource p) where
  abbrev On : Place → Type 0
  On p = IsOn d conducts IsSource p

  abbrev GoesOn : Place → Type 0
  GoesOn p = Out d conducts IsSource p

  abbrev Coming : Place → Type 0
  Coming p = Comes d conducts IsSource p

  pub in_rows : (k : ℕ) (e : Element) (p : Place) → slice_get d.elements k ≡ Some e → Has e p → (top ≤ p.row) × (p.row < top + count)
  in_rows k e p at has = rows_in e p (contains_at d.elements k e at) has

  same_at : (i j : ℕ) (e f : Element) → slice_get d.elements i ≡ Some e → slice_get d.elements j ≡ Some f → i ≡ j → e ≡ f
  same_at i j e f at at' same = some_same (sym at ∙ ap (slice_get d.elements) same ∙ at')

  order_column : (i j : ℕ) (e f : Element) → i < j → slice_get d.elements i ≡ Some e → slice_get d.elements j ≡ Some f → (first_place e).column ≤ (first_place f).column
  order_column i j e f lt at at' = elim (sound.order i j e f lt at at') [ inl less ↦ omega arith | inr same ↦ let column = same.0 in omega arith ]

  order_columns : (i j : ℕ) (e f : Element) → i ≤ j → slice_get d.elements i ≡ Some e → slice_get d.elements j ≡ Some f → (first_place e).column ≤ (first_place f).column
  order_columns i j e f le at at' = elim (cases_eq i j) [
    | inl same ↦ let column = ap (λ x. (first_place x).column) (same_at i j e f at at' same) in omega arith
    | inr ne ↦ order_column i j e f (omega arith) at at'
  ]

  order_row : (i j : ℕ) (e f : Element) → i < j → slice_get d.elements i ≡ Some e → slice_get d.elements j ≡ Some f → (first_place e).column ≡ (first_place f).column → (first_place e).row < (first_place f).row
  order_row i j e f lt at at' column = elim (sound.order i j e f lt at at') [ inl less ↦ absurd (omega arith) | inr same ↦ same.1 ]

  before_column : (i j : ℕ) (e f : Element) → slice_get d.elements i ≡ Some e → slice_get d.elements j ≡ Some f → (first_place e).column < (first_place f).column → i < j
  before_column i j e f at at' less = elim (cases_lt i j) [ inl lt ↦ lt | inr ge ↦ let back = order_columns j i f e ge at' at in absurd (omega arith) ]

  before_row : (i j : ℕ) (e f : Element) → slice_get d.elements i ≡ Some e → slice_get d.elements j ≡ Some f → (first_place e).column ≡ (first_place f).column → (first_place e).row < (first_place f).row → i < j
  before_row i j e f at at' column less = elim (cases_lt i j) [
    | inl lt ↦ lt
    | inr ge ↦ elim (cases_eq i j) [
      | inl same ↦ let row = ap (λ x. (first_place x).row) (same_at i j e f at at' same) in absurd (omega arith)
      | inr ne ↦ let back = order_row j i f e (omega arith) at' at (sym column) in absurd (omega arith)
    ]
  ]

  gives_column : (k : ℕ) (e : Element) (q : Place) → slice_get d.elements k ≡ Some e → Gives e q → (first_place e).column ≤ q.column
  gives_column k (Wire at) q in' gives = let column = ap (λ (p : Place). p.column) gives in omega arith
  gives_column k (Join at) q in' gives = let column = ap (λ (p : Place). p.column) gives in omega arith
  gives_column k (Upright at) q in' gives = absurd gives
  gives_column k (Contact c) q in' gives = gives.1
  gives_column k (Coil c) q in' gives = gives.1
  gives_column k (Box b) q in' gives = let column = gives.0 in let wide = sound.wide b (contains_at d.elements k (Box b) in') in omega arith

  -- a place in the row of q, between the beginning of the element that gives there and q, is that element's
  gap : (j k : ℕ) (e f : Element) (q x : Place) → slice_get d.elements j ≡ Some e → slice_get d.elements k ≡ Some f → Gives e q → Has f x → x.row ≡ q.row
      → (first_place e).column ≤ x.column → x.column ≤ q.column → j ≡ k
  gap j k (Wire at) f q x in' in'' gives has row ge le =
      let column = ap (λ (p : Place). p.column) gives in
      let same : q ≡ x = place_same q x (sym row) (omega arith) in
      sound.apart.elements j k (Wire at) f x in' in'' (inr (inl (gives ∙ same))) has
  gap j k (Join at) f q x in' in'' gives has row ge le =
      let column = ap (λ (p : Place). p.column) gives in
      let same : q ≡ x = place_same q x (sym row) (omega arith) in
      sound.apart.elements j k (Join at) f x in' in'' (inr (inl (gives ∙ same))) has
  gap j k (Upright at) f q x in' in'' gives has row ge le = absurd gives
  gap j k (Contact c) f q x in' in'' gives has row ge le =
      let far = gives.2 in
      sound.apart.elements j k (Contact c) f x in' in'' (inr (inl (row ∙ gives.0, ge, omega arith))) has
  gap j k (Coil c) f q x in' in'' gives has row ge le =
      let far = gives.2 in
      sound.apart.elements j k (Coil c) f x in' in'' (inr (inl (row ∙ gives.0, ge, omega arith))) has
  gap j k (Box b) f q x in' in'' gives has row ge le =
      let column = gives.0 in
      let pin = any_found (λ w. (w.side ≡ Right) × (w.row ≡ q.row)) b.pins gives.1 in
      let within = sound.pins b pin.1 (contains_at d.elements j (Box b) in') (contains_at b.pins pin.0 pin.1 pin.2) in
      let above = within.0 in
      let below = within.1 in
      let here = pin.3.1 in
      sound.clear j k b f x in' in'' has (omega arith) (omega arith) ge (omega arith)

  untouched : (n j : ℕ) (f e : Element) (q x : Place) → j < n → slice_get d.elements j ≡ Some e → slice_get d.elements n ≡ Some f → Gives e q → Has f x
      → IsNeeded d (n + 1) q → x.row ≡ q.row → x.column ≡ (first_place f).column → ⊥
  untouched n j f e q x lt at at' gives has needed row column =
      let from = needed.from in
      let begins = needed.begins in
      let right = needed.column in
      let later = order_column n needed.index f needed.element (omega arith) at' needed.at in
      elim (cases_lt x.column needed.spot.column) [
        | inl left ↦
            let before = order_column j n e f lt at at' in
            let same = gap j n e f q x at at' gives has row (omega arith) (omega arith) in
            omega arith
        | inr over ↦
            let here : x ≡ needed.spot = place_same x needed.spot (row ∙ sym needed.row) (omega arith) in
            let P : Place → Type 0 = λ p. Has f p in
            let same = sound.apart.elements n needed.index f needed.element needed.spot at' needed.at (subst P here has) (inr (inr (inl needed.takes))) in
            omega arith
      ]

  untouched_right : (n j : ℕ) (b : DrawnBox) (e : Element) (q x : Place) → j < n → slice_get d.elements j ≡ Some e → slice_get d.elements n ≡ Some (Box b) → Gives e q → Gives (Box b) x
      → IsNeeded d (n + 1) q → x.row ≡ q.row → ⊥
  untouched_right n j b e q x lt at at' gives gives' needed row =
      let from = needed.from in
      let begins = needed.begins in
      let right = needed.column in
      let across = needed.row in
      let later = order_column n needed.index (Box b) needed.element (omega arith) at' needed.at in
      let wide = sound.wide b (contains_at d.elements n (Box b) at') in
      let end = gives'.0 in
      elim (cases_lt b.right needed.spot.column) [
        | inl left ↦
            let before = order_column j n e (Box b) lt at at' in
            let same = gap j n e (Box b) q x at at' gives (inr (inl gives')) row (omega arith) (omega arith) in
            omega arith
        | inr over ↦
            let pin = any_found (λ w. (w.side ≡ Right) × (w.row ≡ x.row)) b.pins gives'.1 in
            let within = sound.pins b pin.1 (contains_at d.elements n (Box b) at') (contains_at b.pins pin.0 pin.1 pin.2) in
            let above = within.0 in
            let below = within.1 in
            let here = pin.3.1 in
            let same = sound.clear n needed.index b needed.element needed.spot at' needed.at (inr (inr (inl needed.takes))) (omega arith) (omega arith) (omega arith) (omega arith) in
            omega arith
      ]

  -- no row that is needed further right is touched
  not_touched : (n j : ℕ) (f e : Element) (q x : Place) → j < n → slice_get d.elements j ≡ Some e → slice_get d.elements n ≡ Some f → Gives e q
      → IsNeeded d (n + 1) q → Touches f x → x.row ≡ q.row → ⊥
  not_touched n j (Wire p) e q x lt at at' gives needed touches row = untouched n j (Wire p) e q x lt at at' gives (inl touches) needed row (sym (ap (λ (w : Place). w.column) touches))
  not_touched n j (Join p) e q x lt at at' gives needed touches row = untouched n j (Join p) e q x lt at at' gives (inl touches) needed row (sym (ap (λ (w : Place). w.column) touches))
  not_touched n j (Upright p) e q x lt at at' gives needed touches row = untouched n j (Upright p) e q x lt at at' gives (inl touches) needed row (sym (ap (λ (w : Place). w.column) touches))
  not_touched n j (Contact p) e q x lt at at' gives needed touches row = untouched n j (Contact p) e q x lt at at' gives (inl touches) needed row (sym (ap (λ (w : Place). w.column) touches))
  not_touched n j (Coil p) e q x lt at at' gives needed touches row = untouched n j (Coil p) e q x lt at at' gives (inl touches) needed row (sym (ap (λ (w : Place). w.column) touches))
  not_touched n j (Box b) e q x lt at at' gives needed (inl takes) row = untouched n j (Box b) e q x lt at at' gives (inr (inr (inl takes))) needed row takes.0
  not_touched n j (Box b) e q x lt at at' gives needed (inr gives') row = untouched_right n j b e q x lt at at' gives gives' needed row

  none_there : (n : ℕ) (f : Element) (p : Place) → slice_get d.elements n ≡ Some f → Has f p → (Stands f p → ⊥) → Any (λ e. Stands e p) d.elements → ⊥
  none_there n f p at has none any =
      let found = any_found (λ e. Stands e p) d.elements any in
      let same = same_at found.0 n found.1 f found.2 at (sound.apart.elements found.0 n found.1 f p found.2 at (inr (inr (inr found.3))) has) in
      let P : Element → Type 0 = λ e. Stands e p in
      none (subst P same found.3)

  -- outside an upright a place of an element is ON where state comes to it
  pub coming_on : (n : ℕ) (f : Element) (p : Place) → slice_get d.elements n ≡ Some f → IsStop f p → Has f p → (Stands f p → ⊥) → Coming p ↔ On p
  coming_on n f p at stop has none = (
    walking.comes_on d conducts IsSource sound.apart.elements no_source p,
    walking.on_comes d conducts IsSource sound.apart.elements no_source p (no_source n f p at stop) (none_there n f p at has none),
  )

  not_pending : (n : ℕ) (f : Element) (q : Place) → slice_get d.elements n ≡ Some f → (first_place f).column ≡ q.column + 1 → IsPending d n q → ⊥
  not_pending n f q at column pending =
      let order = order_columns n pending.index f pending.element pending.from at pending.at in
      let there = ap (λ (p : Place). p.column) (stands_first pending.element (place pending.row q.column) pending.stands) in
      omega arith

  -- what the states of the rows say before the element n
  abbrev Gave : ℕ → List Bool → Type 0
  Gave n rows = (j : ℕ) (e : Element) (q : Place) → j < n → slice_get d.elements j ≡ Some e → Gives e q → IsNeeded d n q → IsPending d n q ⊎ ((at_row rows top q ≡ true) ↔ GoesOn q)

  abbrev Waits : ℕ → List Bool → Type 0
  Waits n rows = (j : ℕ) (e : Element) (q : Place) → j < n → slice_get d.elements j ≡ Some e → Stands e q → IsPending d n q → (at_row rows top q ≡ true) ↔ Coming q

  abbrev pub Decided : Place → Type 0
  Decided p = (b : Bool) × ((b ≡ true) ↔ On p)

  abbrev AreDecided : ℕ → Type 0
  AreDecided n = (k : ℕ) (e : Element) → k < n → slice_get d.elements k ≡ Some e → IsPending d n (first_place e) ⊎ Decided (first_place e)

  pub record Knows (n : ℕ) (rows : List Bool) : Type 0 where
    pub long : length rows ≡ count
    pub gave : Gave n rows
    pub waits : Waits n rows
    pub decided : AreDecided n

  pub nothing_known : (rows : List Bool) → length rows ≡ count → Knows 0 rows
  nothing_known rows long = record {
    long = long;
    gave = λ j e q lt at gives needed. absurd (omega arith);
    waits = λ j e q lt at stands pending. absurd (omega arith);
    decided = λ k e lt at. absurd (omega arith);
  }

  -- where the element n begins, its row has the state that comes from its left
  pub led_known : (n : ℕ) (f : Element) (p : Place) (rows : List Bool) → slice_get d.elements n ≡ Some f → Takes f p → p.column ≡ (first_place f).column → Knows n rows → IsLed d p
      → (at_row rows top p ≡ true) ↔ Coming p
  led_known n f p rows at takes begins knows led =
      let found = any_found (λ e. Gives e led.from) d.elements led.gives in
      let right = led.column in
      let left = gives_column found.0 found.1 led.from found.2 found.3 in
      let lt = before_column found.0 n found.1 f found.2 at (omega arith) in
      let needed : IsNeeded d n led.from = record { index = n; from = omega arith; element = f; at = at; spot = p; takes = takes; row = led.row; column = led.column; begins = begins } in
      let row_same : at_row rows top p ≡ at_row rows top led.from = ap (λ r. bit_at rows (r - top)) led.row in
      elim (knows.gave found.0 found.1 led.from lt found.2 found.3 needed) [
        | inl pending ↦ absurd (not_pending n f led.from at (sym begins ∙ led.column) pending)
        | inr known ↦ (
          λ on. (led.from, record { row = led.row; column = led.column; gives = inr led.gives; takes = any_at (λ e. Takes e p) d.elements n f at takes }, known.0 (sym row_same ∙ on)),
          λ comes. row_same ∙ known.1 (same_out led.from comes.0 (comes.1.row) led.row (comes.1.column) led.column comes.2),
        )
      ]
    where
      same_out : (a b : Place) → p.row ≡ b.row → p.row ≡ a.row → p.column ≡ b.column + 1 → p.column ≡ a.column + 1 → GoesOn b → GoesOn a
      same_out a b row row' column column' out =
          let same : b ≡ a = place_same b a (sym row ∙ row') (omega arith) in
          let P : Place → Type 0 = λ w. GoesOn w in
          subst P same out

  pending_later : (n : ℕ) (f : Element) (q : Place) → slice_get d.elements n ≡ Some f → ((p : Place) → Stands f p → ⊥) → IsPending d n q → IsPending d (n + 1) q
  pending_later n f q at none pending =
      let from = pending.from in
      elim (cases_eq pending.index n) [
        | inl same ↦
            let is = same_at pending.index n pending.element f pending.at at same in
            let P : Element → Type 0 = λ e. Stands e (place pending.row q.column) in
            absurd (none (place pending.row q.column) (subst P is pending.stands))
        | inr ne ↦ record {
          index = pending.index;
          from = omega arith;
          element = pending.element;
          at = pending.at;
          row = pending.row;
          stands = pending.stands;
          below = pending.below;
          each = pending.each;
        }
      ]

  -- between the places of an upright that goes on there are only its own
  standing_between : (j n : ℕ) (e f : Element) (q : Place) → j < n → slice_get d.elements j ≡ Some e → Stands e q → slice_get d.elements n ≡ Some f → (pending : IsPending d (n + 1) q)
      → Stands f (first_place f) × ((first_place f).column ≡ q.column) × (q.row < (first_place f).row) × ((first_place f).row < pending.row)
  standing_between j n e f q lt at stands at' pending =
      let from = pending.from in
      let first = stands_first e q stands in
      let first_row = ap (λ (p : Place). p.row) first in
      let first_column = ap (λ (p : Place). p.column) first in
      let last = stands_first pending.element (place pending.row q.column) pending.stands in
      let last_row : (first_place pending.element).row ≡ pending.row = ap (λ (p : Place). p.row) last in
      let last_column : (first_place pending.element).column ≡ q.column = ap (λ (p : Place). p.column) last in
      let one = order_column j n e f lt at at' in
      let two = order_column n pending.index f pending.element (omega arith) at' pending.at in
      let column : (first_place f).column ≡ q.column = omega arith in
      let above = order_row j n e f lt at at' (omega arith) in
      let below = order_row n pending.index f pending.element (omega arith) at' pending.at (omega arith) in
      let standing = pending.each (first_place f).row (omega arith) (omega arith) in
      let found = any_found (λ w. Stands w (place (first_place f).row q.column)) d.elements standing in
      let here : place (first_place f).row q.column ≡ first_place f = place_same (place (first_place f).row q.column) (first_place f) refl (sym column) in
      let P : Place → Type 0 = λ p. Stands found.1 p in
      let there = subst P here found.3 in
      let same = same_at found.0 n found.1 f found.2 at' (sound.apart.elements found.0 n found.1 f (first_place f) found.2 at' (inr (inr (inr there))) (inl refl)) in
      let Q : Element → Type 0 = λ w. Stands w (first_place f) in
      (subst Q same there, column, omega arith, omega arith)

  -- an element that isn't part of an upright: what is known of the other rows stays
  pub plain_known : (n : ℕ) (f : Element) (rows new : List Bool) → slice_get d.elements n ≡ Some f → ((p : Place) → Stands f p → ⊥) → Knows n rows → length new ≡ length rows
      → ((q : Place) → top ≤ q.row → ((x : Place) → Touches f x → x.row ≡ q.row → ⊥) → at_row new top q ≡ at_row rows top q)
      → ((q : Place) → Gives f q → IsNeeded d (n + 1) q → (at_row new top q ≡ true) ↔ GoesOn q)
      → Decided (first_place f) → Knows (n + 1) new
  plain_known n f rows new at none knows long kept own decided = record { long = long ∙ knows.long; gave = gave; waits = waits; decided = all_decided }
    where
      gave : Gave (n + 1) new
      gave j e q lt at' gives needed = elim (cases_eq j n) [
        | inl same ↦
            let is = same_at j n e f at' at same in
            let P : Element → Type 0 = λ w. Gives w q in
            inr (own q (subst P is gives) needed)
        | inr ne ↦
            let less : j < n = omega arith in
            elim (knows.gave j e q less at' gives (weaker_needed d n q needed)) [
              | inl pending ↦ inl (pending_later n f q at none pending)
              | inr known ↦
                  let in' = (in_rows j e q at' (inr (inl gives))).0 in
                  let same = kept q in' (λ x touches row. not_touched n j f e q x less at' at gives needed touches row) in
                  inr ((λ on. known.0 (sym same ∙ on)), (λ out. same ∙ known.1 out))
            ]
      ]

      waits : Waits (n + 1) new
      waits j e q lt at' stands pending = elim (cases_eq j n) [
        | inl same ↦
            let is = same_at j n e f at' at same in
            let P : Element → Type 0 = λ w. Stands w q in
            absurd (none q (subst P is stands))
        | inr ne ↦ let between = standing_between j n e f q (omega arith) at' stands at pending in absurd (none (first_place f) between.0)
      ]

      all_decided : AreDecided (n + 1)
      all_decided k e lt at' = elim (cases_eq k n) [
        | inl same ↦
            let is = same_at k n e f at' at same in
            let P : Element → Type 0 = λ w. Decided (first_place w) in
            inr (subst P (sym is) decided)
        | inr ne ↦ elim (knows.decided k e (omega arith) at') [ inl pending ↦ inl (pending_later n f (first_place e) at none pending) | inr known ↦ inr known ]
      ]

  pub wire_known : (n : ℕ) (p : Place) (rows new : List Bool) → slice_get d.elements n ≡ Some (Wire p) → Knows n rows → length new ≡ length rows
      → ((q : Place) → top ≤ q.row → (q.row ≡ p.row → ⊥) → at_row new top q ≡ at_row rows top q) → (at_row new top p ≡ true) ↔ Coming p → Knows (n + 1) new
  wire_known n p rows new at knows long kept state =
      plain_known n (Wire p) rows new at (λ x s. s) knows long (λ q ge free. kept q ge (λ e. free p refl (sym e))) own
      (at_row new top p, ((λ on. is_on.0 (state.0 on)), (λ on. state.1 (is_on.1 on))))
    where
      is_on : Coming p ↔ On p
      is_on = coming_on n (Wire p) p at (inl refl) (inl refl) (λ s. s)

      lets : Lets d conducts p
      lets k ends =
          let same = same_at k n ends.0 (Wire p) ends.1 at (sound.apart.elements k n ends.0 (Wire p) p ends.1 at (ends_has ends.0 p ends.2) (inl refl)) in
          let P : Element → Type 0 = λ e. EndsAt e p in
          absurd (subst P same ends.2)

      own : (q : Place) → Gives (Wire p) q → IsNeeded d (n + 1) q → (at_row new top q ≡ true) ↔ GoesOn q
      own q gives needed =
          let P : Place → Type 0 = λ w. (at_row new top w ≡ true) ↔ GoesOn w in
          subst P gives ((λ on. (is_on.0 (state.0 on), lets)), (λ out. state.1 (is_on.1 out.0)))

  -- a contact or a coil
  pub record IsSymbolAt (f : Element) (row column : ℕ) : Type 0 where
    pub first : first_place f ≡ place row column
    pub gives : (x : Place) → Gives f x → IsSymbolPlace (place row column) x
    pub given : (x : Place) → IsSymbolPlace (place row column) x → Gives f x
    pub takes : (x : Place) → IsSymbolPlace (place row column) x → Takes f x
    pub ends : (x : Place) → EndsAt f x → (x.row ≡ row) × (x.column ≡ column + 2)
    pub ended : (x : Place) → x.row ≡ row → x.column ≡ column + 2 → EndsAt f x
    pub stands : (x : Place) → Stands f x → ⊥
    pub touches : Touches f (place row column)

  inside_on : (n : ℕ) (f : Element) (p q : Place) → slice_get d.elements n ≡ Some f → Takes f q → Gives f p → q.row ≡ p.row → q.column ≡ p.column + 1
      → ((k : ℕ) → SymbolEndsAt d k p → ⊥) → ((x : Place) → Stands f x → ⊥) → On p ↔ On q
  inside_on n f p q at takes gives row column none alone = (
    λ on. on_step d conducts IsSource p q on
        (inl (record { row = row; column = column; gives = inr (any_at (λ e. Gives e p) d.elements n f at gives); takes = any_at (λ e. Takes e q) d.elements n f at takes }))
        (λ k ends. absurd (none k ends)),
    λ on.
        let comes = (coming_on n f q at (inr (inl takes)) (inr (inr (inl takes))) (alone q)).1 on in
        let row' = comes.1.row in
        let column' = comes.1.column in
        let same : comes.0 ≡ p = place_same comes.0 p (sym row' ∙ row) (omega arith) in
        let P : Place → Type 0 = λ w. On w in
        subst P same comes.2.0,
  )

  pub symbol_known : (n : ℕ) (f : Element) (row column : ℕ) (rows new : List Bool) → slice_get d.elements n ≡ Some f → IsSymbolAt f row column → Knows n rows → length new ≡ length rows
      → ((q : Place) → top ≤ q.row → (q.row ≡ row → ⊥) → at_row new top q ≡ at_row rows top q) → Decided (place row column)
      → (at_row new top (place row column) ≡ true) ↔ (Coming (place row column) × IsTrue (conducts n)) → Knows (n + 1) new
  symbol_known n f row column rows new at symbol knows long kept decided state =
      let P : Place → Type 0 = λ w. Decided w in
      plain_known n f rows new at symbol.stands knows long (λ q ge free. kept q ge (λ e. free (place row column) symbol.touches (sym e))) own (subst P (sym symbol.first) decided)
    where
      no_end : (x : Place) → IsSymbolPlace (place row column) x → x.column < column + 2 → (k : ℕ) → SymbolEndsAt d k x → ⊥
      no_end x part less k ends =
          let same = same_at k n ends.0 f ends.1 at (sound.apart.elements k n ends.0 f x ends.1 at (ends_has ends.0 x ends.2) (inr (inl (symbol.given x part)))) in
          let Q : Element → Type 0 = λ e. EndsAt e x in
          let far = (symbol.ends x (subst Q same ends.2)).1 in
          omega arith

      step : (x y : Place) → IsSymbolPlace (place row column) x → IsSymbolPlace (place row column) y → y.column ≡ x.column + 1 → On x ↔ On y
      step x y part part' next = let far = part'.2 in inside_on n f x y at (symbol.takes y part') (symbol.given x part) (part'.0 ∙ sym part.0) next (no_end x part (omega arith)) symbol.stands

      across : (q : Place) → q.row ≡ row → q.column ≡ column + 2 → On (place row column) ↔ On q
      across q here far =
          let one = step (place row column) (place row (column + 1)) (refl, omega arith, omega arith) (refl, omega arith, omega arith) refl in
          let two = step (place row (column + 1)) q (refl, omega arith, omega arith) (here, omega arith, omega arith) (omega arith) in
          (λ on. two.0 (one.0 on), λ on. one.1 (two.1 on))

      last : (q : Place) → IsSymbolPlace (place row column) q → IsNeeded d (n + 1) q → q.column ≡ column + 2
      last q part needed = elim (cases_lt q.column (column + 2)) [
        | inl less ↦
            let right = needed.column in
            let from = needed.from in
            let near = part.1 in
            let within : IsSymbolPlace (place row column) needed.spot = (needed.row ∙ part.0, omega arith, omega arith) in
            let same = sound.apart.elements n needed.index f needed.element needed.spot at needed.at (inr (inl (symbol.given needed.spot within))) (inr (inr (inl needed.takes))) in
            omega arith
        | inr over ↦ let far = part.2 in omega arith
      ]

      own : (q : Place) → Gives f q → IsNeeded d (n + 1) q → (at_row new top q ≡ true) ↔ GoesOn q
      own q gives needed =
          let part = symbol.gives q gives in
          let far = last q part needed in
          let same : at_row new top q ≡ at_row new top (place row column) = ap (λ r. bit_at new (r - top)) part.0 in
          let whole = across q part.0 far in
          let P : Place → Type 0 = λ w. Coming w ↔ On w in
          let is_on = coming_on n f (place row column) at (inr (inl (symbol.takes (place row column) (refl, omega arith, omega arith)))) (inr (inl (symbol.given (place row column) (refl, omega arith, omega arith)))) (symbol.stands (place row column)) in (
            λ on. let s = state.0 (sym same ∙ on) in (
              whole.0 (is_on.0 s.0),
              λ k ends.
                  let there = sound.apart.elements n k f ends.0 q at ends.1 (inr (inl gives)) (ends_has ends.0 q ends.2) in
                  let Q : ℕ → Type 0 = λ i. IsTrue (conducts i) in
                  subst Q there s.1,
            ),
            λ out. same ∙ state.1 (is_on.1 (whole.1 out.0), out.1 n (f, at, symbol.ended q part.0 far)),
          )

  box_takes : (n : ℕ) (b : DrawnBox) (q : Place) → slice_get d.elements n ≡ Some (Box b) → Has (Box b) q → Any (λ e. Takes e q) d.elements → Takes (Box b) q
  box_takes n b q at has any =
      let found = any_found (λ e. Takes e q) d.elements any in
      let same = same_at found.0 n found.1 (Box b) found.2 at (sound.apart.elements found.0 n found.1 (Box b) q found.2 at (inr (inr (inl found.3))) has) in
      let P : Element → Type 0 = λ e. Takes e q in
      subst P same found.3

  -- a place right of a box is ON only where a walk begins there
  box_walk : (n : ℕ) (b : DrawnBox) (q : Place) (passed : List Place) → slice_get d.elements n ≡ Some (Box b) → Gives (Box b) q → IsWalk d IsSource (q ∷ passed) → IsSource q
  box_walk n b q [] at gives walk = walk
  box_walk n b q (p ∷ passed) at gives walk = elim walk.0 [
    | inl right ↦
        let takes = box_takes n b q at (inr (inl gives)) right.takes in
        let wide = sound.wide b (contains_at d.elements n (Box b) at) in
        let left = takes.0 in
        let end = gives.0 in
        absurd (omega arith)
    | inr upright ↦ absurd (none_there n (Box b) q at (inr (inl gives)) (λ s. s) upright.to)
  ]

  -- `kept`: the rows of no pin stay; `shown`: those of the output pins show what begins there
  pub box_known : (n : ℕ) (b : DrawnBox) (rows new : List Bool) → slice_get d.elements n ≡ Some (Box b) → Knows n rows → length new ≡ length rows
      → ((q : Place) → top ≤ q.row → ((x : Place) → Touches (Box b) x → x.row ≡ q.row → ⊥) → at_row new top q ≡ at_row rows top q)
      → ((q : Place) → Gives (Box b) q → (at_row new top q ≡ true) ↔ IsSource q) → Knows (n + 1) new
  box_known n b rows new at knows long kept shown =
      plain_known n (Box b) rows new at (λ x s. s) knows long kept own (false, ((λ e. absurd cc), (λ on. absurd (off on))))
    where
      off : On (place b.top b.left) → ⊥
      off on =
          let comes = (coming_on n (Box b) (place b.top b.left) at (inl refl) (inl refl) (λ s. s)).1 on in
          let takes = box_takes n b (place b.top b.left) at (inl refl) comes.1.takes in
          let pin = any_found (λ w. (w.side ≡ Left) × (w.row ≡ b.top)) b.pins takes.1 in
          let within = sound.pins b pin.1 (contains_at d.elements n (Box b) at) (contains_at b.pins pin.0 pin.1 pin.2) in
          let above = within.0 in
          let here = pin.3.1 in
          omega arith

      lets : (q : Place) → Gives (Box b) q → Lets d conducts q
      lets q gives k ends =
          let same = same_at k n ends.0 (Box b) ends.1 at (sound.apart.elements k n ends.0 (Box b) q ends.1 at (ends_has ends.0 q ends.2) (inr (inl gives))) in
          let P : Element → Type 0 = λ e. EndsAt e q in
          absurd (subst P same ends.2)

      own : (q : Place) → Gives (Box b) q → IsNeeded d (n + 1) q → (at_row new top q ≡ true) ↔ GoesOn q
      own q gives needed = (
        λ on. (on_source d conducts IsSource q ((shown q gives).0 on), lets q gives),
        λ out. (shown q gives).1 (box_walk n b q out.0.passed at gives out.0.walk),
      )

  stands_gives : (f : Element) (p q : Place) → Stands f p → Gives f q → p ≡ q
  stands_gives (Wire at) p q stands gives = absurd stands
  stands_gives (Join at) p q stands gives = sym stands ∙ gives
  stands_gives (Upright at) p q stands gives = absurd gives
  stands_gives (Contact c) p q stands gives = absurd stands
  stands_gives (Coil c) p q stands gives = absurd stands
  stands_gives (Box b) p q stands gives = absurd stands

  stands_touches : (f : Element) (p : Place) → Stands f p → Touches f p
  stands_touches (Wire at) p stands = absurd stands
  stands_touches (Join at) p stands = stands
  stands_touches (Upright at) p stands = stands
  stands_touches (Contact c) p stands = absurd stands
  stands_touches (Coil c) p stands = absurd stands
  stands_touches (Box b) p stands = absurd stands

  module _ (n : ℕ) (f : Element) (p : Place) (rows mid : List Bool) (at : slice_get d.elements n ≡ Some f) (stands : Stands f p) (knows : Knows n rows) (long : length mid ≡ length rows)
      (kept : (q : Place) → top ≤ q.row → (q.row ≡ p.row → ⊥) → at_row mid top q ≡ at_row rows top q) (state : (at_row mid top p ≡ true) ↔ Coming p) where
    first_is : first_place f ≡ p
    first_is = stands_first f p stands

    here_column : (first_place f).column ≡ p.column
    here_column = ap (λ (w : Place). w.column) first_is

    here_row : (first_place f).row ≡ p.row
    here_row = ap (λ (w : Place). w.row) first_is

    own_place : (e : Element) (q : Place) → e ≡ f → Stands e q → p ≡ q
    own_place e q is stands' = let P : Element → Type 0 = λ w. Stands w q in sym first_is ∙ stands_first f q (subst P is stands')

    given_place : (e : Element) (q : Place) → e ≡ f → Gives e q → p ≡ q
    given_place e q is gives = let P : Element → Type 0 = λ w. Gives w q in stands_gives f p q stands (subst P is gives)

    pending_place : (q : Place) (pending : IsPending d n q) → pending.index ≡ n → (p.row ≡ pending.row) × (p.column ≡ q.column)
    pending_place q pending same =
        let is = same_at pending.index n pending.element f pending.at at same in
        let there = own_place pending.element (place pending.row q.column) is pending.stands in
        (ap (λ (w : Place). w.row) there, ap (λ (w : Place). w.column) there)

    free : (j : ℕ) (e : Element) (q : Place) → j < n → slice_get d.elements j ≡ Some e → Gives e q → IsNeeded d (n + 1) q → q.row ≡ p.row → ⊥
    free j e q lt at' gives needed row = not_touched n j f e q p lt at' at gives needed (stands_touches f p stands) (sym row)

    -- within an upright nothing is joined yet
    module _ (next : StandsIn d (p.row + 1) p.column) where
      pending_here : IsPending d (n + 1) p
      pending_here =
          let found = any_found (λ e. Stands e (place (p.row + 1) p.column)) d.elements next in
          let there = stands_first found.1 (place (p.row + 1) p.column) found.3 in
          let row : (first_place found.1).row ≡ p.row + 1 = ap (λ (w : Place). w.row) there in
          let column : (first_place found.1).column ≡ p.column = ap (λ (w : Place). w.column) there in
          let one = here_row in
          let lt = before_row n found.0 f found.1 at found.2 (here_column ∙ sym column) (omega arith) in
          record {
            index = found.0;
            from = omega arith;
            element = found.1;
            at = found.2;
            row = p.row + 1;
            stands = found.3;
            below = omega arith;
            each = λ r ge le. elim (cases_eq r (p.row + 1)) [
              | inl same ↦ let P : ℕ → Type 0 = λ w. StandsIn d w p.column in subst P (sym same) next
              | inr ne ↦
                  let here : p.row ≡ r = omega arith in
                  let P : ℕ → Type 0 = λ w. StandsIn d w p.column in
                  subst P here (any_at (λ e. Stands e p) d.elements n f at stands)
            ];
          }

      pending_more : (q : Place) → IsPending d n q → IsPending d (n + 1) q
      pending_more q pending =
          let from = pending.from in
          elim (cases_eq pending.index n) [
            | inl same ↦
                let here = pending_place q pending same in
                let row = here.0 in
                let below = pending.below in
                let more = pending_here in
                let start = more.below in
                let P : ℕ → Type 0 = λ c. Stands more.element (place more.row c) in
                record {
                  index = more.index;
                  from = more.from;
                  element = more.element;
                  at = more.at;
                  row = more.row;
                  stands = subst P here.1 more.stands;
                  below = omega arith;
                  each = λ r ge le. elim (cases_lt p.row r) [
                    | inl lt ↦ let Q : ℕ → Type 0 = λ c. StandsIn d r c in subst Q here.1 (more.each r (omega arith) le)
                    | inr up ↦ pending.each r ge (omega arith)
                  ];
                }
            | inr ne ↦ record {
              index = pending.index;
              from = omega arith;
              element = pending.element;
              at = pending.at;
              row = pending.row;
              stands = pending.stands;
              below = pending.below;
              each = pending.each;
            }
          ]

      within_gave : Gave (n + 1) mid
      within_gave j e q lt at' gives needed = elim (cases_eq j n) [
        | inl same ↦
            let P : Place → Type 0 = λ w. IsPending d (n + 1) w in
            inl (subst P (given_place e q (same_at j n e f at' at same) gives) pending_here)
        | inr ne ↦
            let less : j < n = omega arith in
            elim (knows.gave j e q less at' gives (weaker_needed d n q needed)) [
              | inl pending ↦ inl (pending_more q pending)
              | inr known ↦
                  let same = kept q (in_rows j e q at' (inr (inl gives))).0 (free j e q less at' gives needed) in
                  inr ((λ on. known.0 (sym same ∙ on)), (λ out. same ∙ known.1 out))
            ]
      ]

      within_waits : Waits (n + 1) mid
      within_waits j e q lt at' stands' pending = elim (cases_eq j n) [
        | inl same ↦ let P : Place → Type 0 = λ w. (at_row mid top w ≡ true) ↔ Coming w in subst P (own_place e q (same_at j n e f at' at same) stands') state
        | inr ne ↦
            let less : j < n = omega arith in
            let between = standing_between j n e f q less at' stands' at pending in
            let above = between.2 in
            let row = here_row in
            let same = kept q (in_rows j e q at' (inr (inr (inr stands')))).0 (λ e'. omega arith) in
            let known = knows.waits j e q less at' stands' (weaker_pending d n q pending) in
            (λ on. known.0 (sym same ∙ on), λ comes. same ∙ known.1 comes)
      ]

      within_decided : AreDecided (n + 1)
      within_decided k e lt at' = elim (cases_eq k n) [
        | inl same ↦
            let is = same_at k n e f at' at same in
            let P : Place → Type 0 = λ w. IsPending d (n + 1) w in
            inl (subst P (sym first_is ∙ sym (ap first_place is)) pending_here)
        | inr ne ↦ elim (knows.decided k e (omega arith) at') [ inl pending ↦ inl (pending_more (first_place e) pending) | inr known ↦ inr known ]
      ]

      pub within_known : Knows (n + 1) mid
      within_known = record { long = long ∙ knows.long; gave = within_gave; waits = within_waits; decided = within_decided }

    -- at its lowest place the rows of an upright are joined
    module _ (first : ℕ) (new : List Bool) (up : IsUpright d p.column first p.row) (new_long : length new ≡ length mid)
        (joined : (s : ℕ) → first ≤ s → s ≤ p.row → (at_row new top (place s p.column) ≡ true) ↔ ((r : ℕ) × (first ≤ r) × (r ≤ p.row) × (at_row mid top (place r p.column) ≡ true)))
        (outside : (q : Place) → top ≤ q.row → (q.row < first) ⊎ (p.row < q.row) → at_row new top q ≡ at_row mid top q) where
      each_coming : (r : ℕ) → first ≤ r → r ≤ p.row → (at_row mid top (place r p.column) ≡ true) ↔ Coming (place r p.column)
      each_coming r ge le = elim (cases_eq r p.row) [
        | inl same ↦ let P : ℕ → Type 0 = λ w. (at_row mid top (place w p.column) ≡ true) ↔ Coming (place w p.column) in subst P (sym same) state
        | inr ne ↦
            let found = any_found (λ e. Stands e (place r p.column)) d.elements (up.each r ge le) in
            let there = stands_first found.1 (place r p.column) found.3 in
            let row : (first_place found.1).row ≡ r = ap (λ (w : Place). w.row) there in
            let column : (first_place found.1).column ≡ p.column = ap (λ (w : Place). w.column) there in
            let one = here_row in
            let lt = before_row found.0 n found.1 f found.2 at (column ∙ sym here_column) (omega arith) in
            let pending : IsPending d n (place r p.column) = record {
              index = n;
              from = omega arith;
              element = f;
              at = at;
              row = p.row;
              stands = stands;
              below = le;
              each = λ s ge' le'. up.each s (omega arith) le';
            } in
            let known = knows.waits found.0 found.1 (place r p.column) lt found.2 found.3 pending in
            let same = kept (place r p.column) (in_rows found.0 found.1 (place r p.column) found.2 (inr (inr (inr found.3)))).0 ne in
            (λ on. known.0 (sym same ∙ on), λ comes. same ∙ known.1 comes)
      ]

      on_in : (s : ℕ) → first ≤ s → s ≤ p.row → (at_row new top (place s p.column) ≡ true) ↔ On (place s p.column)
      on_in s ge le = (
        λ on.
            let some = (joined s ge le).0 on in
            walking.upright_on d conducts IsSource sound.apart.elements no_source p.column first p.row up s ge le (some.0, some.1, some.2, (each_coming some.0 some.1 some.2).0 some.3),
        λ on.
            let some = walking.upright_comes d conducts IsSource sound.apart.elements no_source p.column first p.row up s ge le on in
            (joined s ge le).1 (some.0, some.1, some.2, (each_coming some.0 some.1 some.2).1 some.3),
      )

      out_in : (q : Place) → p.column ≡ q.column → first ≤ q.row → q.row ≤ p.row → (at_row new top q ≡ true) ↔ GoesOn q
      out_in q column ge le =
          let P : ℕ → Type 0 = λ c. (at_row new top (place q.row c) ≡ true) ↔ GoesOn (place q.row c) in
          let lets = walking.stands_lets d conducts IsSource sound.apart.elements no_source (place q.row p.column) (up.each q.row ge le) in
          let on = on_in q.row ge le in
          subst P column (λ h. (on.0 h, lets), λ out. on.1 out.0)

      -- what gives in one of these rows and is needed further right is of the upright
      column_in : (j : ℕ) (e : Element) (q : Place) → j < n → slice_get d.elements j ≡ Some e → Gives e q → IsNeeded d (n + 1) q → first ≤ q.row → q.row ≤ p.row → p.column ≡ q.column
      column_in j e q lt at' gives needed ge le =
          let found = any_found (λ w. Stands w (place q.row p.column)) d.elements (up.each q.row ge le) in
          let there = stands_first found.1 (place q.row p.column) found.3 in
          let row : (first_place found.1).row ≡ q.row = ap (λ (w : Place). w.row) there in
          let column : (first_place found.1).column ≡ p.column = ap (λ (w : Place). w.column) there in
          let one = here_row in
          let two = here_column in
          let from = needed.from in
          let begins = needed.begins in
          let right = needed.column in
          let later = order_column n needed.index f needed.element (omega arith) at needed.at in
          let earlier = order_column j n e f lt at' at in
          elim (cases_lt q.column p.column) [
            | inl over ↦
                let here : place q.row p.column ≡ needed.spot = place_same (place q.row p.column) needed.spot (sym needed.row) (omega arith) in
                let P : Place → Type 0 = λ w. Takes needed.element w in
                let same = sound.apart.elements found.0 needed.index found.1 needed.element (place q.row p.column) found.2 needed.at (inr (inr (inr found.3))) (inr (inr (inl (subst P (sym here) needed.takes)))) in
                let back = order_row n found.0 f found.1 (omega arith) at found.2 (two ∙ sym column) in
                absurd (omega arith)
            | inr left ↦
                let same = gap j found.0 e found.1 q (place q.row p.column) at' found.2 gives (inr (inr (inr found.3))) refl (omega arith) left in
                let is = same_at j found.0 e found.1 at' found.2 same in
                let P : Element → Type 0 = λ w. Stands w (place q.row p.column) in
                ap (λ (w : Place). w.column) (stands_gives e (place q.row p.column) q (subst P (sym is) found.3) gives)
          ]

      pending_split : (q : Place) → IsPending d n q → IsPending d (n + 1) q ⊎ ((p.column ≡ q.column) × (first ≤ q.row) × (q.row ≤ p.row))
      pending_split q pending =
          let from = pending.from in
          elim (cases_eq pending.index n) [
            | inl same ↦
                let here = pending_place q pending same in
                let row = here.0 in
                let below = pending.below in
                elim (cases_lt q.row first) [
                  | inl lt ↦
                      let order = up.order in
                      let r = first - 1 in
                      let next : r + 1 ≡ first = omega arith in
                      let P : ℕ → Type 0 = λ c. StandsIn d r c in
                      absurd (up.above r next (subst P (sym here.1) (pending.each r (omega arith) (omega arith))))
                  | inr ge ↦ inr (here.1, ge, omega arith)
                ]
            | inr ne ↦ inl (record {
              index = pending.index;
              from = omega arith;
              element = pending.element;
              at = pending.at;
              row = pending.row;
              stands = pending.stands;
              below = pending.below;
              each = pending.each;
            })
          ]

      lowest_gave : Gave (n + 1) new
      lowest_gave j e q lt at' gives needed = elim (cases_eq j n) [
        | inl same ↦
            let is = given_place e q (same_at j n e f at' at same) gives in
            let row = ap (λ (w : Place). w.row) is in
            let order = up.order in
            inr (out_in q (ap (λ (w : Place). w.column) is) (omega arith) (omega arith))
        | inr ne ↦ elim (cases_lt q.row first) [
          | inl above ↦ apart_from (omega arith) (inl above)
          | inr ge ↦ elim (cases_lt p.row q.row) [
            | inl below ↦ apart_from (omega arith) (inr below)
            | inr le ↦ inr (out_in q (column_in j e q (omega arith) at' gives needed ge le) ge le)
          ]
        ]
      ]
        where
          known_then : at_row new top q ≡ at_row rows top q → (at_row rows top q ≡ true) ↔ GoesOn q → (at_row new top q ≡ true) ↔ GoesOn q
          known_then same known = (λ on. known.0 (sym same ∙ on), λ out. same ∙ known.1 out)

          apart_from : j < n → (q.row < first) ⊎ (p.row < q.row) → IsPending d (n + 1) q ⊎ ((at_row new top q ≡ true) ↔ GoesOn q)
          apart_from less out =
              let ge = (in_rows j e q at' (inr (inl gives))).0 in
              elim (knows.gave j e q less at' gives (weaker_needed d n q needed)) [
                | inl pending ↦ elim (pending_split q pending) [
                  | inl more ↦ inl more
                  | inr in' ↦ let a = in'.1 in let b = in'.2 in absurd (elim out [ inl x ↦ omega arith | inr x ↦ omega arith ])
                ]
                | inr known ↦ inr (known_then (outside q ge out ∙ kept q ge (free j e q less at' gives needed)) known)
              ]

      lowest_waits : Waits (n + 1) new
      lowest_waits j e q lt at' stands' pending =
          let start = pending.below in
          elim (cases_eq j n) [
            | inl same ↦
                let is = own_place e q (same_at j n e f at' at same) stands' in
                let row = ap (λ (w : Place). w.row) is in
                let there = stands_first pending.element (place pending.row q.column) pending.stands in
                let row' : (first_place pending.element).row ≡ pending.row = ap (λ (w : Place). w.row) there in
                let column' : (first_place pending.element).column ≡ q.column = ap (λ (w : Place). w.column) there in
                let from = pending.from in
                let one = here_row in
                let lower = order_row n pending.index f pending.element (omega arith) at pending.at (here_column ∙ ap (λ (w : Place). w.column) is ∙ sym column') in
                let P : ℕ → Type 0 = λ c. StandsIn d (p.row + 1) c in
                absurd (up.below (subst P (sym (ap (λ (w : Place). w.column) is)) (pending.each (p.row + 1) (omega arith) (omega arith))))
            | inr ne ↦
                let between = standing_between j n e f q (omega arith) at' stands' at pending in
                let above = between.2 in
                let under = between.3 in
                let one = here_row in
                let P : ℕ → Type 0 = λ c. StandsIn d (p.row + 1) c in
                absurd (up.below (subst P (sym between.1 ∙ here_column) (pending.each (p.row + 1) (omega arith) (omega arith))))
          ]

      decided_in : (q : Place) → p.column ≡ q.column → first ≤ q.row → q.row ≤ p.row → Decided q
      decided_in q column ge le = let P : ℕ → Type 0 = λ c. Decided (place q.row c) in subst P column (at_row new top (place q.row p.column), on_in q.row ge le)

      lowest_decided : AreDecided (n + 1)
      lowest_decided k e lt at' = elim (cases_eq k n) [
        | inl same ↦
            let is = same_at k n e f at' at same in
            let there : p ≡ first_place e = sym first_is ∙ sym (ap first_place is) in
            let row = ap (λ (w : Place). w.row) there in
            let order = up.order in
            inr (decided_in (first_place e) (ap (λ (w : Place). w.column) there) (omega arith) (omega arith))
        | inr ne ↦ elim (knows.decided k e (omega arith) at') [
          | inl pending ↦ elim (pending_split (first_place e) pending) [ inl more ↦ inl more | inr in' ↦ inr (decided_in (first_place e) in'.0 in'.1 in'.2) ]
          | inr known ↦ inr known
        ]
      ]

      pub lowest_known : Knows (n + 1) new
      lowest_known = record { long = new_long ∙ long ∙ knows.long; gave = lowest_gave; waits = lowest_waits; decided = lowest_decided }

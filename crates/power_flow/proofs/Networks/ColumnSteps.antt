-- What the steps of a network leave, element by element.
use Rattle.std.proofs.Common.{◌≡◌, ℕ, zero, suc, ◌+◌, ◌-◌, ◌<◌, ◌≤◌, ◌⊎◌, ◌↔◌, inl, inr, List, [], ◌∷◌, ◌++◌, Bool, true, false, ◌&&◌, Option, Some, None, MatchOption, Any, Contains, slice_get, length, set, length-set, take, arith, refl, sym, ap, ◌∙◌, subst}
use Rattle.std.specs.List.{AllZip, filter_map, cons_option}
use Rattle.std.proofs.lemmas.Bool.{cases_eq}
use Rattle.std.proofs.lemmas.List.{get_or-set_same, get_or-set_other}
use Rattle.std.proofs.lemmas.Option.{slice_get_within}
use Rattle.lists.proofs.Zips.{zip_at, zip_back}
use Rattle.lists.proofs.Places.{element_at, slice_get-set_same, slice_get-set_other, some_same}
use Rattle.lists.proofs.Members.{at_contains, contains_at, any_at, any_found}
use Rattle.drawings.specs.declared.place.Place.{Place}
use Rattle.drawings.specs.Symbols.{Contact as DrawnContact}
use Rattle.drawings.specs.Symbols.{Coil as DrawnCoil}
use Rattle.drawings.specs.declared.drawn_box.DrawnBox.{DrawnBox}
use Rattle.drawings.specs.declared.drawn_box.DrawnPin.{DrawnPin}
use Rattle.drawings.specs.declared.drawn_box.Operand.{Operand}
use Rattle.drawings.specs.declared.drawn_box.Side.{Side}
use Rattle.drawings.specs.declared.drawn_box.Side.TheVariants.{Left, Right}
use Rattle.network.specs.declared.element.Element.{Element}
use Rattle.network.specs.declared.element.Element.TheVariants.{Wire, Join, Upright, Contact, Coil, Box}
use Rattle.network.specs.Links.{Diagram, place, Gives, Takes, Stands}
use Rattle.network.specs.Apart.{first_place, Has}
use Rattle.network.specs.GraphValue.{IsSoundNetwork}
use Rattle.power_flow.specs.Power.{IsOn}
use Rattle.scan_steps.specs.Conducting.{bit_at, contact_conducts, contact_memory}
use Rattle.declared_names.specs.declared.declarations.Declaration.{Declaration}
use Rattle.scan_steps.specs.declared.slot.Instance.{Instance}
use Rattle.scan_steps.specs.declared.slot.Slot.{Slot}
use Rattle.scan_steps.specs.declared.bound_box.BoundBox.{BoundBox}
use Rattle.scan_steps.specs.declared.step.Step.{Step}
use Rattle.scan_steps.specs.declared.step.Step.TheVariants as step
use Rattle.scan_steps.specs.Values.{is_true}
use Rattle.scan_steps.specs.Steps.Sources.{source_value}
use Rattle.power_flow.specs.Steps.NameSources.{name_source}
use Rattle.power_flow.specs.Steps.Columns.{IsStop, IsLed, Begins, Joins, left_pin, left_pins, IsLeftPinBegun, joined, AreStepsOf}
use Rattle.power_flow.specs.Steps.Columns.Begins.{goes_on, at_rail, is_off}
use Rattle.power_flow.specs.Steps.Columns.Joins.{within, lowest}
use Rattle.scan_steps.specs.Steps.Passing.{Pass, AreJoined, IsBoxObeyed, ArePassed}
use Rattle.scan_steps.specs.Steps.BoxSteps.{box_result, IsMarked, HasOutput}
use Rattle.power_flow.specs.Steps.BoxTable.{IsBoundBox, IsBoundOutput, AreBoundBoxes, right_pins}
use Rattle.power_flow.specs.Waiting.{box_of, boxes_of, coil_of, coils_of}
use Rattle.power_flow.proofs.Walks.PowerWalks.{on_source}
use Rattle.power_flow.proofs.Boxes.BoxesSources.{right_pin_in, right_pin_at}
use Rattle.power_flow.proofs.Walks.OnPlaces.{ends_has, Lets, Comes}
use Rattle.network.proofs.Elements.{place_same}
use Rattle.power_flow.proofs.Networks.ElementSteps.{kept_before}
use Rattle.power_flow.proofs.Walks.Sweeping as sweeping
use Rattle.power_flow.proofs.Walks.Sweeping.{at_row, Touches}

-- an element with the number k among those that f chooses
pub number_at : {A X : Type 0} (f : A → Option X) (es : List A) (k : ℕ) (e : A) (x : X) → slice_get es k ≡ Some e → f e ≡ Some x → slice_get (filter_map f es) (length (filter_map f (take k es))) ≡ Some x
number_at f [] k e x at is = absurd cc
number_at f (y ∷ es) zero e x at is =
    let here : f y ≡ Some x = ap f (some_same at) ∙ is in
    ap (λ o. slice_get (cons_option o (filter_map f es)) 0) here
number_at {A} {X} f (y ∷ es) (suc k) e x at is = go (number_at f es k e x at is) (f y)
  where
    go : slice_get (filter_map f es) (length (filter_map f (take k es))) ≡ Some x → (o : Option X) → slice_get (cons_option o (filter_map f es)) (length (cons_option o (filter_map f (take k es)))) ≡ Some x
    go there None = there
    go there (Some z) = there

pub number_less : {A X : Type 0} (f : A → Option X) (es : List A) (k n : ℕ) (e : A) (x : X) → k < n → slice_get es k ≡ Some e → f e ≡ Some x → length (filter_map f (take k es)) < length (filter_map f (take n es))
number_less f [] k n e x lt at is = absurd cc
number_less f (y ∷ es) zero zero e x lt at is = absurd (omega arith)
number_less f (y ∷ es) zero (suc n) e x lt at is =
    let here : f y ≡ Some x = ap f (some_same at) ∙ is in
    let long : length (cons_option (f y) (filter_map f (take n es))) ≡ suc (length (filter_map f (take n es))) = ap (λ o. length (cons_option o (filter_map f (take n es)))) here in
    omega arith
number_less f (y ∷ es) (suc k) zero e x lt at is = absurd (omega arith)
number_less {A} {X} f (y ∷ es) (suc k) (suc n) e x lt at is = go (number_less f es k n e x (omega arith) at is) (f y)
  where
    go : length (filter_map f (take k es)) < length (filter_map f (take n es)) → (o : Option X) → length (cons_option o (filter_map f (take k es))) < length (cons_option o (filter_map f (take n es)))
    go less None = less
    go less (Some z) = let a : length (z ∷ filter_map f (take k es)) ≡ suc (length (filter_map f (take k es))) = refl in let b : length (z ∷ filter_map f (take n es)) ≡ suc (length (filter_map f (take n es))) = refl in omega arith

pub and_both : (x y : Bool) → ((x && y) ≡ true) ↔ ((x ≡ true) × (y ≡ true))
and_both true y = (λ h. (refl, h), λ h. h.1)
and_both false y = (λ h. absurd cc, λ h. absurd (let no : false ≡ true = h.0 in cc))

-- the pins of the left side
pub left_pin_in : (pins : List DrawnPin) (m : ℕ) (pin : DrawnPin) → slice_get (left_pins pins) m ≡ Some pin → Contains pins pin × (pin.side ≡ Left)
left_pin_in [] m pin at = absurd cc
left_pin_in (p ∷ pins) m pin at = go (λ n at'. let h = left_pin_in pins n pin at' in (later h.0, h.1)) p.side refl m at
  where
    later : Contains pins pin → Contains (p ∷ pins) pin
    later (k, lt, at') = (suc k, (let long : length (p ∷ pins) ≡ suc (length pins) = refl in omega arith), at')

    go : ((n : ℕ) → slice_get (left_pins pins) n ≡ Some pin → Contains (p ∷ pins) pin × (pin.side ≡ Left)) → (s : Side) → p.side ≡ s → (n : ℕ) → slice_get (cons_option (left_pin p s) (left_pins pins)) n ≡ Some pin → Contains (p ∷ pins) pin × (pin.side ≡ Left)
    go rest Right e n at' = rest n at'
    go rest Left e zero at' =
        let is : p ≡ pin = some_same at' in
        ((zero, (let long : length (p ∷ pins) ≡ suc (length pins) = refl in omega arith), is), sym (ap (λ (q : DrawnPin). q.side) is) ∙ e)
    go rest Left e (suc n) at' = rest n at'

pub left_pin_at : (pins : List DrawnPin) (pin : DrawnPin) (k : ℕ) → slice_get pins k ≡ Some pin → pin.side ≡ Left → (m : ℕ) × (slice_get (left_pins pins) m ≡ Some pin)
left_pin_at [] pin k at side = absurd cc
left_pin_at (p ∷ pins) pin zero at side =
    let is : p ≡ pin = some_same at in
    let left : p.side ≡ Left = ap (λ (q : DrawnPin). q.side) is ∙ side in
    let P : Side → Type 0 = λ s. slice_get (cons_option (left_pin p s) (left_pins pins)) 0 ≡ Some pin in
    (0, subst P (sym left) at)
left_pin_at (p ∷ pins) pin (suc k) at side = go p.side (left_pin_at pins pin k at side)
  where
    go : (s : Side) → (m : ℕ) × (slice_get (left_pins pins) m ≡ Some pin) → (m : ℕ) × (slice_get (cons_option (left_pin p s) (left_pins pins)) m ≡ Some pin)
    go Right h = h
    go Left h = (suc h.0, h.1)

pub coil_same : {x y : DrawnCoil} → Coil x ≡ Coil y → x ≡ y
coil_same e = cc

pub box_same : {x y : DrawnBox} → Box x ≡ Box y → x ≡ y
box_same e = cc

-- steps in two parts
pub passed_append : (boxes : List BoundBox) (slots : List Slot) (dt : ℕ) (xs ys : List Step) (a b : Pass) → ArePassed boxes slots dt (xs ++ ys) a b → (mid : Pass) × ArePassed boxes slots dt xs a mid × ArePassed boxes slots dt ys mid b
passed_append boxes slots dt [] ys a b passed = (a, refl, passed)
passed_append boxes slots dt (x ∷ xs) ys a b passed =
    let rest = passed_append boxes slots dt xs ys passed.0 b passed.2 in
    (rest.0, (passed.0, passed.1, rest.1), rest.2)

-- what isn't a row stays
pub record IsRest (a b : Pass) : Type 0 where
  pub memories : b.memories ≡ a.memories
  pub links : b.links ≡ a.links
  pub results : b.results ≡ a.results

pub rest_both : (a b c : Pass) → IsRest a b → IsRest b c → IsRest a c
rest_both a b c one two = record { memories = two.memories ∙ one.memories; links = two.links ∙ one.links; results = two.results ∙ one.results }

module _ (ds : List Declaration) (d : Diagram) (top count : ℕ) (boxes : List BoundBox) (slots : List Slot) (dt : ℕ) (conducts : ℕ → Bool) (IsSource : Place → Type 0)
    (sound : IsSoundNetwork d)
    (rows_in : (e : Element) (p : Place) → Contains d.elements e → Has e p → (top ≤ p.row) × (p.row < top + count))
    (no_source : (k : ℕ) (e : Element) (p : Place) → slice_get d.elements k ≡ Some e → IsStop e p → IsSource p → ⊥)
    (rail_source : (p : Place) → Contains d.rails p → IsSource p) where
  abbrev On : Place → Type 0
  On p = IsOn d conducts IsSource p

  abbrev Coming : Place → Type 0
  Coming p = Comes d conducts IsSource p

  -- the row of p has the state that comes there from its left
  pub record IsBegun (p : Place) (a b : Pass) : Type 0 where
    pub rest : IsRest a b
    pub long : length b.rows ≡ length a.rows
    pub outside : (q : Place) → top ≤ q.row → (q.row ≡ p.row → ⊥) → at_row b.rows top q ≡ at_row a.rows top q
    pub state : (at_row b.rows top p ≡ true) ↔ Coming p

  -- a row is set
  set_begun : (p : Place) (a b : Pass) (v : Bool) → top ≤ p.row → p.row < top + count → length a.rows ≡ count → b ≡ record a { rows = set a.rows (p.row - top) v } → (v ≡ true) ↔ Coming p → IsBegun p a b
  set_begun p a b v ge lt long is state =
      let P : Pass → Type 0 = λ w. IsBegun p a w in
      let same : bit_at (set a.rows (p.row - top) v) (p.row - top) ≡ v = get_or-set_same a.rows (p.row - top) v false (omega arith) in
      subst P (sym is) (record {
        rest = record { memories = refl; links = refl; results = refl };
        long = length-set a.rows (p.row - top) v;
        outside = λ q ge' ne. get_or-set_other a.rows (p.row - top) (q.row - top) v false (λ e. ne (omega arith));
        state = ((λ on. state.0 (sym same ∙ on)), (λ comes. same ∙ state.1 comes));
      })

  off_begun : (p : Place) (a b : Pass) → top ≤ p.row → p.row < top + count → length a.rows ≡ count → b ≡ record a { rows = set a.rows (p.row - top) false } → (Coming p → ⊥) → IsBegun p a b
  off_begun p a b ge lt long is none = set_begun p a b false ge lt long is ((λ e. absurd cc), (λ comes. absurd (none comes)))

  pub rail_lets : (r : Place) → Contains d.rails r → Lets d conducts r
  rail_lets r rail k ends = absurd (sound.apart.rails ends.0 r (contains_at d.elements k ends.0 ends.1) (ends_has ends.0 r ends.2) rail)

  -- how a row begins where an element takes state
  pub begun : (n : ℕ) (f : Element) (p : Place) (a b : Pass) (steps : List Step) → slice_get d.elements n ≡ Some f → Takes f p → length a.rows ≡ count
      → (IsLed d p → (at_row a.rows top p ≡ true) ↔ Coming p) → Begins d top p steps → ArePassed boxes slots dt steps a b → IsBegun p a b
  begun n f p a b steps at takes long known (goes_on led) passed =
      let P : Pass → Type 0 = λ w. IsBegun p a w in
      subst P (sym passed) (record {
        rest = record { memories = refl; links = refl; results = refl };
        long = refl;
        outside = λ q ge ne. refl;
        state = known led;
      })
  begun n f p a b steps at takes long known (at_rail rail) passed =
      let in' = sweeping.in_rows d top count conducts IsSource sound rows_in no_source rail_source n f p at (inr (inr (inl takes))) in
      let from : Coming p = (
        rail.from,
        record { row = rail.row; column = rail.column; gives = inl rail.rail; takes = any_at (λ e. Takes e p) d.elements n f at takes },
        (on_source d conducts IsSource rail.from (rail_source rail.from rail.rail), rail_lets rail.from rail.rail),
      ) in
      set_begun p a b true in'.0 in'.1 long (passed.2 ∙ passed.1) ((λ e. from), (λ c. refl))
  begun n f p a b steps at takes long known (is_off no_led no_rail) passed =
      let in' = sweeping.in_rows d top count conducts IsSource sound rows_in no_source rail_source n f p at (inr (inr (inl takes))) in
      off_begun p a b in'.0 in'.1 long (passed.2 ∙ passed.1) (λ comes. elim comes.1.gives [
        | inl rail ↦ no_rail (record { from = comes.0; row = comes.1.row; column = comes.1.column; rail = rail })
        | inr gives ↦ no_led (record { from = comes.0; row = comes.1.row; column = comes.1.column; gives = gives })
      ])

  -- at a place of an upright
  pub ended : (n : ℕ) (f : Element) (p : Place) (a mid b : Pass) (steps : List Step) → slice_get d.elements n ≡ Some f → Stands f p
      → sweeping.Knows d top count conducts IsSource sound rows_in no_source rail_source n a.rows → IsBegun p a mid → Joins d top p steps → ArePassed boxes slots dt steps mid b
      → sweeping.Knows d top count conducts IsSource sound rows_in no_source rail_source (n + 1) b.rows × IsRest mid b
  ended n f p a mid b steps at stands knows began (within next) passed =
      let P : Pass → Type 0 = λ w. sweeping.Knows d top count conducts IsSource sound rows_in no_source rail_source (n + 1) w.rows × IsRest mid w in
      subst P (sym passed) (
        sweeping.within_known d top count conducts IsSource sound rows_in no_source rail_source n f p a.rows mid.rows at stands knows began.long began.outside began.state next,
        record { memories = refl; links = refl; results = refl },
      )
  ended n f p a mid b steps at stands knows began (lowest first up) passed =
      let P : Pass → Type 0 = λ w. sweeping.Knows d top count conducts IsSource sound rows_in no_source rail_source (n + 1) w.rows × IsRest mid w in
      subst P (sym passed.2) (
        sweeping.lowest_known d top count conducts IsSource sound rows_in no_source rail_source n f p a.rows mid.rows at stands knows began.long began.outside began.state first passed.0.rows up joins.long joined_there outside,
        record { memories = passed.1.1; links = passed.1.2; results = passed.1.3 },
      )
    where
      joins : AreJoined (first - top) (p.row - top) mid.rows passed.0.rows
      joins = passed.1.0

      first_in : top ≤ first
      first_in =
          let found = any_found (λ e. Stands e (place first p.column)) d.elements (up.each first (omega arith) up.order) in
          (sweeping.in_rows d top count conducts IsSource sound rows_in no_source rail_source found.0 found.1 (place first p.column) found.2 (inr (inr (inr found.3)))).0

      joined_there : (s : ℕ) → first ≤ s → s ≤ p.row → (at_row passed.0.rows top (place s p.column) ≡ true) ↔ ((r : ℕ) × (first ≤ r) × (r ≤ p.row) × (at_row mid.rows top (place r p.column) ≡ true))
      joined_there s ge le =
          let least = first_in in
          let both = joins.within (s - top) (omega arith) (omega arith) in (
            λ on.
                let some = both.0 on in
                let lower = some.1 in
                let upper = some.2 in
                let back : some.0 ≡ some.0 + top - top = omega arith in
                let Q : ℕ → Type 0 = λ w. bit_at mid.rows w ≡ true in
                (some.0 + top, omega arith, omega arith, subst Q back some.3),
            λ some.
                let lower = some.1 in
                let upper = some.2 in
                both.1 (some.0 - top, omega arith, omega arith, some.3),
          )

      outside : (q : Place) → top ≤ q.row → (q.row < first) ⊎ (p.row < q.row) → at_row passed.0.rows top q ≡ at_row mid.rows top q
      outside q ge out =
          let least = first_in in
          joins.outside (q.row - top) (elim out [ inl lt ↦ inl (omega arith) | inr gt ↦ let order = up.order in inr (omega arith) ])

  abbrev pub Known : ℕ → List Bool → Type 0
  Known n rows = sweeping.Knows d top count conducts IsSource sound rows_in no_source rail_source n rows

  abbrev pub coil_number : ℕ → ℕ
  coil_number k = length (coils_of (take k d.elements))

  abbrev pub box_number : ℕ → ℕ
  box_number k = length (boxes_of (take k d.elements))

  -- the memory of a contact once it is read, and of any other element as it was
  abbrev pub read_memory : List Bool → ℕ → Element → Bool
  read_memory old k (Wire at) = bit_at old k
  read_memory old k (Join at) = bit_at old k
  read_memory old k (Upright at) = bit_at old k
  read_memory old k (Contact c) = contact_memory c.kind (is_true (source_value slots (name_source ds c.name))) (bit_at old k)
  read_memory old k (Coil c) = bit_at old k
  read_memory old k (Box b) = bit_at old k

  -- box k was stepped by the power on its left side
  pub record IsMade (k : ℕ) (b : DrawnBox) (results : List Instance) : Type 0 where
    pub box : BoundBox
    pub rows : List Bool
    pub box_at : slice_get boxes (box_number k) ≡ Some box
    pub result_at : slice_get results (box_number k) ≡ Some (box_result box slots dt rows)
    pub power : (pin : DrawnPin) → Contains b.pins pin → pin.side ≡ Left → pin.operand ≡ None → (bit_at rows (pin.row - top) ≡ true) ↔ On (place pin.row b.left)

  -- what is known once the first n elements are passed
  pub record Seen (old : List Bool) (n : ℕ) (a : Pass) : Type 0 where
    pub known : Known n a.rows
    pub memory : (k : ℕ) (e : Element) → k < n → slice_get d.elements k ≡ Some e → bit_at a.memories k ≡ read_memory old k e
    pub later : (k : ℕ) → n ≤ k → bit_at a.memories k ≡ bit_at old k
    pub memory_long : length a.memories ≡ length d.elements
    pub link : (k : ℕ) (c : DrawnCoil) → k < n → slice_get d.elements k ≡ Some (Coil c) → (bit_at a.links (coil_number k) ≡ true) ↔ On (place c.row c.column)
    pub links_long : length a.links ≡ length (coils_of d.elements)
    pub made : (k : ℕ) (b : DrawnBox) → k < n → slice_get d.elements k ≡ Some (Box b) → IsMade k b a.results
    pub results_long : length a.results ≡ length boxes

  made_same : (k : ℕ) (b : DrawnBox) (results new : List Instance) → slice_get new (box_number k) ≡ slice_get results (box_number k) → IsMade k b results → IsMade k b new
  made_same k b results new same made = record { box = made.box; rows = made.rows; box_at = made.box_at; result_at = same ∙ made.result_at; power = made.power }

  same_at : (i j : ℕ) (e f : Element) → slice_get d.elements i ≡ Some e → slice_get d.elements j ≡ Some f → i ≡ j → e ≡ f
  same_at i j e f at at' same = some_same (sym at ∙ ap (slice_get d.elements) same ∙ at')

  -- one more element
  seen_from : (old : List Bool) (n : ℕ) (f : Element) (a b : Pass) → slice_get d.elements n ≡ Some f → Seen old n a → Known (n + 1) b.rows
      → length b.memories ≡ length a.memories → ((k : ℕ) → (k ≡ n → ⊥) → bit_at b.memories k ≡ bit_at a.memories k) → bit_at b.memories n ≡ read_memory old n f
      → length b.links ≡ length a.links → ((k : ℕ) (c : DrawnCoil) → k < n → slice_get d.elements k ≡ Some (Coil c) → bit_at b.links (coil_number k) ≡ bit_at a.links (coil_number k))
      → ((c : DrawnCoil) → f ≡ Coil c → (bit_at b.links (coil_number n) ≡ true) ↔ On (place c.row c.column))
      → length b.results ≡ length a.results → ((k : ℕ) (x : DrawnBox) → k < n → slice_get d.elements k ≡ Some (Box x) → slice_get b.results (box_number k) ≡ slice_get a.results (box_number k))
      → ((x : DrawnBox) → f ≡ Box x → IsMade n x b.results) → Seen old (n + 1) b
  seen_from old n f a b at seen known memory_long memories memory links_long links link results_long results made = record {
    known = known;
    memory = λ k e lt at'. elim (cases_eq k n) [
      | inl same ↦
          let is = same_at k n e f at' at same in
          let P : ℕ → Type 0 = λ w. bit_at b.memories w ≡ read_memory old w e in
          subst P (sym same) (memory ∙ ap (read_memory old n) (sym is))
      | inr ne ↦ memories k ne ∙ seen.memory k e (omega arith) at'
    ];
    later = λ k le. memories k (λ e. omega arith) ∙ seen.later k (omega arith);
    memory_long = memory_long ∙ seen.memory_long;
    link = λ k c lt at'. elim (cases_eq k n) [
      | inl same ↦
          let is = same_at k n (Coil c) f at' at same in
          let P : ℕ → Type 0 = λ w. (bit_at b.links (coil_number w) ≡ true) ↔ On (place c.row c.column) in
          subst P (sym same) (link c (sym is))
      | inr ne ↦
          let was = seen.link k c (omega arith) at' in
          let same = links k c (omega arith) at' in
          (λ on. was.0 (sym same ∙ on), λ on. same ∙ was.1 on)
    ];
    links_long = links_long ∙ seen.links_long;
    made = λ k x lt at'. elim (cases_eq k n) [
      | inl same ↦
          let is = same_at k n (Box x) f at' at same in
          let P : ℕ → Type 0 = λ w. IsMade w x b.results in
          subst P (sym same) (made x (sym is))
      | inr ne ↦ made_same k x a.results b.results (results k x (omega arith) at') (seen.made k x (omega arith) at')
    ];
    results_long = results_long ∙ seen.results_long;
  }

  seen_rest : (old : List Bool) (n : ℕ) (f : Element) (a b : Pass) → slice_get d.elements n ≡ Some f → Seen old n a → Known (n + 1) b.rows → IsRest a b
      → bit_at old n ≡ read_memory old n f → ((c : DrawnCoil) → f ≡ Coil c → ⊥) → ((x : DrawnBox) → f ≡ Box x → ⊥) → Seen old (n + 1) b
  seen_rest old n f a b at seen known rest memory no_coil no_box =
      seen_from old n f a b at seen known (ap (λ w. length w) rest.memories) (λ k ne. ap (λ w. bit_at w k) rest.memories)
      (ap (λ w. bit_at w n) rest.memories ∙ seen.later n (omega arith) ∙ memory)
      (ap (λ w. length w) rest.links) (λ k c lt at'. ap (λ w. bit_at w (coil_number k)) rest.links) (λ c is. absurd (no_coil c is))
      (ap (λ w. length w) rest.results) (λ k x lt at'. ap (λ w. slice_get w (box_number k)) rest.results) (λ x is. absurd (no_box x is))

  led_here : (n : ℕ) (f : Element) (p : Place) (rows : List Bool) → slice_get d.elements n ≡ Some f → Takes f p → p.column ≡ (first_place f).column → Known n rows → IsLed d p → (at_row rows top p ≡ true) ↔ Coming p
  led_here n f p rows at takes column known led = sweeping.led_known d top count conducts IsSource sound rows_in no_source rail_source n f p rows at takes column known led

  known_long : (n : ℕ) (rows : List Bool) → Known n rows → length rows ≡ count
  known_long n rows known = known.long

  seen_wire : (old : List Bool) (n : ℕ) (p : Place) (part : List Step) (a b : Pass) → slice_get d.elements n ≡ Some (Wire p) → Seen old n a → AreStepsOf ds d top n (Wire p) part → ArePassed boxes slots dt part a b → Seen old (n + 1) b
  seen_wire old n p part a b at seen steps passed =
      let one = begun n (Wire p) p a b part at refl (known_long n a.rows seen.known) (led_here n (Wire p) p a.rows at refl refl seen.known) steps passed in
      seen_rest old n (Wire p) a b at seen
      (sweeping.wire_known d top count conducts IsSource sound rows_in no_source rail_source n p a.rows b.rows at seen.known one.long one.outside one.state)
      one.rest refl (λ c is. absurd cc) (λ x is. absurd cc)

  seen_join : (old : List Bool) (n : ℕ) (p : Place) (part : List Step) (a b : Pass) → slice_get d.elements n ≡ Some (Join p) → Seen old n a → AreStepsOf ds d top n (Join p) part → ArePassed boxes slots dt part a b → Seen old (n + 1) b
  seen_join old n p part a b at seen steps passed =
      let P : List Step → Type 0 = λ w. ArePassed boxes slots dt w a b in
      let parts = passed_append boxes slots dt steps.0 steps.1 a b (subst P steps.4 passed) in
      let one = begun n (Join p) p a parts.0 steps.0 at refl (known_long n a.rows seen.known) (led_here n (Join p) p a.rows at refl refl seen.known) steps.2 parts.1 in
      let two = ended n (Join p) p a parts.0 b steps.1 at refl seen.known one steps.3 parts.2 in
      seen_rest old n (Join p) a b at seen two.0 (rest_both a parts.0 b one.rest two.1) refl (λ c is. absurd cc) (λ x is. absurd cc)

  seen_upright : (old : List Bool) (n : ℕ) (p : Place) (part : List Step) (a b : Pass) → slice_get d.elements n ≡ Some (Upright p) → Seen old n a → AreStepsOf ds d top n (Upright p) part → ArePassed boxes slots dt part a b → Seen old (n + 1) b
  seen_upright old n p part a b at seen steps passed =
      let P : List Step → Type 0 = λ w. ArePassed boxes slots dt w a b in
      let parts = passed_append boxes slots dt (step.Off (p.row - top) ∷ []) steps.0 a b (subst P steps.2 passed) in
      let in' = sweeping.in_rows d top count conducts IsSource sound rows_in no_source rail_source n (Upright p) p at (inl refl) in
      let one = off_begun p a parts.0 in'.0 in'.1 (known_long n a.rows seen.known) (parts.1.2 ∙ parts.1.1) (λ comes. taken_none comes.1.takes) in
      let two = ended n (Upright p) p a parts.0 b steps.0 at refl seen.known one steps.1 parts.2 in
      seen_rest old n (Upright p) a b at seen two.0 (rest_both a parts.0 b one.rest two.1) refl (λ c is. absurd cc) (λ x is. absurd cc)
    where
      taken_none : Any (λ e. Takes e p) d.elements → ⊥
      taken_none any =
          let found = any_found (λ e. Takes e p) d.elements any in
          let same = same_at found.0 n found.1 (Upright p) found.2 at (sound.apart.elements found.0 n found.1 (Upright p) p found.2 at (inr (inr (inl found.3))) (inl refl)) in
          let P : Element → Type 0 = λ e. Takes e p in
          subst P same found.3

  contact_symbol : (c : DrawnContact) → sweeping.IsSymbolAt d top count conducts IsSource sound rows_in no_source rail_source (Contact c) c.row c.column
  contact_symbol c = record { first = refl; gives = λ x g. g; given = λ x g. g; takes = λ x g. g; ends = λ x e. e; ended = λ x r k. (r, k); stands = λ x s. s; touches = refl }

  coil_symbol : (c : DrawnCoil) → sweeping.IsSymbolAt d top count conducts IsSource sound rows_in no_source rail_source (Coil c) c.row c.column
  coil_symbol c = record { first = refl; gives = λ x g. g; given = λ x g. g; takes = λ x g. g; ends = λ x e. e; ended = λ x r k. (r, k); stands = λ x s. s; touches = refl }

  -- power at the first place of a symbol
  symbol_power : (n : ℕ) (f : Element) (p : Place) → slice_get d.elements n ≡ Some f → Takes f p → (Stands f p → ⊥) → Coming p ↔ On p
  symbol_power n f p at takes none = sweeping.coming_on d top count conducts IsSource sound rows_in no_source rail_source n f p at (inr (inl takes)) (inr (inr (inl takes))) none

  seen_contact : (old : List Bool) (n : ℕ) (c : DrawnContact) (part : List Step) (a b : Pass) → slice_get d.elements n ≡ Some (Contact c)
      → conducts n ≡ contact_conducts c.kind (is_true (source_value slots (name_source ds c.name))) (bit_at old n)
      → Seen old n a → AreStepsOf ds d top n (Contact c) part → ArePassed boxes slots dt part a b → Seen old (n + 1) b
  seen_contact old n c part a b at conducts_is seen steps passed =
      let P : List Step → Type 0 = λ w. ArePassed boxes slots dt w a b in
      let parts = passed_append boxes slots dt steps.0 (step.Contact (record { kind = c.kind; row = c.row - top; source = name_source ds c.name; memory = n }) ∷ []) a b (subst P steps.2 passed) in
      after parts.0 parts.1 (parts.2.2 ∙ parts.2.1)
    where
      after : (mid : Pass) → ArePassed boxes slots dt steps.0 a mid
          → b ≡ record mid { rows = set mid.rows (c.row - top) (bit_at mid.rows (c.row - top) && contact_conducts c.kind (is_true (source_value slots (name_source ds c.name))) (bit_at mid.memories n)); memories = set mid.memories n (contact_memory c.kind (is_true (source_value slots (name_source ds c.name))) (bit_at mid.memories n)) }
          → Seen old (n + 1) b
      after mid before is =
          let p : Place = place c.row c.column in
          let takes : Takes (Contact c) p = (refl, omega arith, omega arith) in
          let in' = sweeping.in_rows d top count conducts IsSource sound rows_in no_source rail_source n (Contact c) p at (inl refl) in
          let ge = in'.0 in
          let lt = in'.1 in
          let long = known_long n a.rows seen.known in
          let one = begun n (Contact c) p a mid steps.0 at takes long (led_here n (Contact c) p a.rows at takes refl seen.known) steps.1 before in
          let mid_long = one.long in
          let on : Bool = is_true (source_value slots (name_source ds c.name)) in
          let had : bit_at mid.memories n ≡ bit_at old n = ap (λ w. bit_at w n) one.rest.memories ∙ seen.later n (omega arith) in
          let v : Bool = bit_at mid.rows (c.row - top) && contact_conducts c.kind on (bit_at mid.memories n) in
          let m : Bool = contact_memory c.kind on (bit_at mid.memories n) in
          let new_rows : b.rows ≡ set mid.rows (c.row - top) v = ap (λ (w : Pass). w.rows) is in
          let new_memories : b.memories ≡ set mid.memories n m = ap (λ (w : Pass). w.memories) is in
          let new_links : b.links ≡ a.links = ap (λ (w : Pass). w.links) is ∙ one.rest.links in
          let new_results : b.results ≡ a.results = ap (λ (w : Pass). w.results) is ∙ one.rest.results in
          let in_list = slice_get_within d.elements n (Contact c) at in
          let memories_long = seen.memory_long in
          let mid_memories = ap (λ (w : List Bool). length w) one.rest.memories in
          let row_is : at_row b.rows top p ≡ v = ap (λ w. bit_at w (c.row - top)) new_rows ∙ get_or-set_same mid.rows (c.row - top) v false (omega arith) in
          let lets : conducts n ≡ contact_conducts c.kind on (bit_at mid.memories n) = conducts_is ∙ ap (contact_conducts c.kind on) (sym had) in
          let both = and_both (bit_at mid.rows (c.row - top)) (contact_conducts c.kind on (bit_at mid.memories n)) in
          let power = symbol_power n (Contact c) p at takes (λ s. s) in
          let known : Known (n + 1) b.rows = sweeping.symbol_known d top count conducts IsSource sound rows_in no_source rail_source n (Contact c) c.row c.column a.rows b.rows at (contact_symbol c) seen.known
          (ap (λ w. length w) new_rows ∙ length-set mid.rows (c.row - top) v ∙ mid_long)
          (λ q ge' ne. ap (λ w. at_row w top q) new_rows ∙ get_or-set_other mid.rows (c.row - top) (q.row - top) v false (λ e. ne (omega arith)) ∙ one.outside q ge' ne)
          (at_row mid.rows top p, ((λ h. power.0 (one.state.0 h)), (λ h. one.state.1 (power.1 h))))
          ((λ h. let s = both.0 (sym row_is ∙ h) in (one.state.0 s.0, lets ∙ s.1)), (λ s. row_is ∙ both.1 (one.state.1 s.0, sym lets ∙ s.1))) in
          seen_from old n (Contact c) a b at seen known
          (ap (λ w. length w) new_memories ∙ length-set mid.memories n m ∙ mid_memories)
          (λ k ne. ap (λ w. bit_at w k) new_memories ∙ get_or-set_other mid.memories n k m false ne ∙ ap (λ w. bit_at w k) one.rest.memories)
          (ap (λ w. bit_at w n) new_memories ∙ get_or-set_same mid.memories n m false (omega arith) ∙ ap (contact_memory c.kind on) had)
          (ap (λ w. length w) new_links) (λ k x less at'. ap (λ w. bit_at w (coil_number k)) new_links) (λ x is'. absurd cc)
          (ap (λ w. length w) new_results) (λ k x less at'. ap (λ w. slice_get w (box_number k)) new_results) (λ x is'. absurd cc)

  seen_coil : (old : List Bool) (n : ℕ) (c : DrawnCoil) (part : List Step) (a b : Pass) → slice_get d.elements n ≡ Some (Coil c) → conducts n ≡ true
      → Seen old n a → AreStepsOf ds d top n (Coil c) part → ArePassed boxes slots dt part a b → Seen old (n + 1) b
  seen_coil old n c part a b at conducts_is seen steps passed =
      let P : List Step → Type 0 = λ w. ArePassed boxes slots dt w a b in
      let parts = passed_append boxes slots dt steps.0 (step.Coil (c.row - top) (coil_number n) ∷ []) a b (subst P steps.2 passed) in
      after parts.0 parts.1 (parts.2.2 ∙ parts.2.1)
    where
      after : (mid : Pass) → ArePassed boxes slots dt steps.0 a mid → b ≡ record mid { links = set mid.links (coil_number n) (bit_at mid.rows (c.row - top)) } → Seen old (n + 1) b
      after mid before is =
          let p : Place = place c.row c.column in
          let takes : Takes (Coil c) p = (refl, omega arith, omega arith) in
          let long = known_long n a.rows seen.known in
          let one = begun n (Coil c) p a mid steps.0 at takes long (led_here n (Coil c) p a.rows at takes refl seen.known) steps.1 before in
          let v : Bool = bit_at mid.rows (c.row - top) in
          let new_rows : b.rows ≡ mid.rows = ap (λ (w : Pass). w.rows) is in
          let new_memories : b.memories ≡ a.memories = ap (λ (w : Pass). w.memories) is ∙ one.rest.memories in
          let new_links : b.links ≡ set mid.links (coil_number n) v = ap (λ (w : Pass). w.links) is in
          let new_results : b.results ≡ a.results = ap (λ (w : Pass). w.results) is ∙ one.rest.results in
          let links_long = seen.links_long in
          let mid_links = ap (λ (w : List Bool). length w) one.rest.links in
          let least = kept_before coil_of d.elements n (Coil c) c at refl in
          let row_is : at_row b.rows top p ≡ v = ap (λ w. bit_at w (c.row - top)) new_rows in
          let link_is : bit_at b.links (coil_number n) ≡ v = ap (λ w. bit_at w (coil_number n)) new_links ∙ get_or-set_same mid.links (coil_number n) v false (omega arith) in
          let power = symbol_power n (Coil c) p at takes (λ s. s) in
          let known : Known (n + 1) b.rows = sweeping.symbol_known d top count conducts IsSource sound rows_in no_source rail_source n (Coil c) c.row c.column a.rows b.rows at (coil_symbol c) seen.known
          (ap (λ w. length w) new_rows ∙ one.long)
          (λ q ge' ne. ap (λ w. at_row w top q) new_rows ∙ one.outside q ge' ne)
          (v, ((λ h. power.0 (one.state.0 h)), (λ h. one.state.1 (power.1 h))))
          ((λ h. (one.state.0 (sym row_is ∙ h), conducts_is)), (λ s. row_is ∙ one.state.1 s.0)) in
          seen_from old n (Coil c) a b at seen known
          (ap (λ w. length w) new_memories) (λ k ne. ap (λ w. bit_at w k) new_memories) (ap (λ w. bit_at w n) new_memories ∙ seen.later n (omega arith))
          (ap (λ w. length w) new_links ∙ length-set mid.links (coil_number n) v ∙ mid_links)
          (λ k x less at'.
          let other = number_less coil_of d.elements k n (Coil x) x less at' refl in
          ap (λ w. bit_at w (coil_number k)) new_links ∙ get_or-set_other mid.links (coil_number n) (coil_number k) v false (λ e. omega arith) ∙ ap (λ w. bit_at w (coil_number k)) one.rest.links)
          (λ x is'.
          let same : c ≡ x = coil_same is' in
          let Q : DrawnCoil → Type 0 = λ w. (bit_at b.links (coil_number n) ≡ true) ↔ On (place w.row w.column) in
          subst Q same ((λ h. power.0 (one.state.0 (sym link_is ∙ h))), (λ h. link_is ∙ one.state.1 (power.1 h))))
          (ap (λ w. length w) new_results) (λ k x less at'. ap (λ w. slice_get w (box_number k)) new_results) (λ x is'. absurd cc)

  -- the left pins of a box, one after the other
  record AreBegun (b : DrawnBox) (ps : List DrawnPin) (a m : Pass) : Type 0 where
    rest : IsRest a m
    long : length m.rows ≡ length a.rows
    outside : (q : Place) → top ≤ q.row → ((x : Place) → Takes (Box b) x → x.row ≡ q.row → ⊥) → at_row m.rows top q ≡ at_row a.rows top q
    stays : (p : Place) → Takes (Box b) p → (at_row a.rows top p ≡ true) ↔ Coming p → (at_row m.rows top p ≡ true) ↔ Coming p
    states : (k : ℕ) (pin : DrawnPin) → slice_get ps k ≡ Some pin → pin.operand ≡ None → (at_row m.rows top (place pin.row b.left) ≡ true) ↔ Coming (place pin.row b.left)

  pins_begun : (n : ℕ) (b : DrawnBox) → slice_get d.elements n ≡ Some (Box b) → (ps : List DrawnPin) (begins : List (List Step)) → AllZip (IsLeftPinBegun d top b) ps begins
      → ((k : ℕ) (pin : DrawnPin) → slice_get ps k ≡ Some pin → Takes (Box b) (place pin.row b.left)) → (a m : Pass) → length a.rows ≡ count
      → ((p : Place) → Takes (Box b) p → IsLed d p → (at_row a.rows top p ≡ true) ↔ Coming p) → ArePassed boxes slots dt (joined begins) a m → AreBegun b ps a m
  pins_begun n b at [] [] z pins a m long led passed =
      let P : Pass → Type 0 = λ w. AreBegun b [] a w in
      subst P (sym passed) (record { rest = record { memories = refl; links = refl; results = refl }; long = refl; outside = λ q ge free. refl; stays = λ p takes h. h; states = λ k pin at' none. absurd cc })
  pins_begun n b at [] (x ∷ begins) z pins a m long led passed = absurd z
  pins_begun n b at (pin ∷ ps) [] z pins a m long led passed = absurd z
  pins_begun n b at (pin ∷ ps) (begin ∷ begins) z pins a m long led passed =
      let parts = passed_append boxes slots dt begin (joined begins) a m passed in
      go parts.0 parts.1 (λ long' led'. pins_begun n b at ps begins z.1 (λ k. pins (suc k)) parts.0 m long' led' parts.2) pin.operand refl z.0
    where
      p : Place
      p = place pin.row b.left

      together : (mid : Pass) → IsRest a mid → length mid.rows ≡ length a.rows
          → ((q : Place) → top ≤ q.row → ((x : Place) → Takes (Box b) x → x.row ≡ q.row → ⊥) → at_row mid.rows top q ≡ at_row a.rows top q)
          → ((x : Place) → Takes (Box b) x → (at_row a.rows top x ≡ true) ↔ Coming x → (at_row mid.rows top x ≡ true) ↔ Coming x)
          → (pin.operand ≡ None → (at_row mid.rows top p ≡ true) ↔ Coming p)
          → (length mid.rows ≡ count → ((x : Place) → Takes (Box b) x → IsLed d x → (at_row mid.rows top x ≡ true) ↔ Coming x) → AreBegun b ps mid m) → AreBegun b (pin ∷ ps) a m
      together mid rest' long' outside' stays' state' more =
          let then = more (long' ∙ long) (λ x takes l. stays' x takes (led x takes l)) in
          record {
            rest = rest_both a mid m rest' then.rest;
            long = then.long ∙ long';
            outside = λ q ge free. then.outside q ge free ∙ outside' q ge free;
            stays = λ x takes h. then.stays x takes (stays' x takes h);
            states = states mid state' then;
          }
        where
          states : (mid : Pass) → (pin.operand ≡ None → (at_row mid.rows top p ≡ true) ↔ Coming p) → AreBegun b ps mid m
              → (k : ℕ) (w : DrawnPin) → slice_get (pin ∷ ps) k ≡ Some w → w.operand ≡ None → (at_row m.rows top (place w.row b.left) ≡ true) ↔ Coming (place w.row b.left)
          states mid' state'' then zero w at' none =
              let is : pin ≡ w = some_same at' in
              let Q : DrawnPin → Type 0 = λ x. (at_row m.rows top (place x.row b.left) ≡ true) ↔ Coming (place x.row b.left) in
              subst Q is (then.stays p (pins 0 pin refl) (state'' (ap (λ (x : DrawnPin). x.operand) is ∙ none)))
          states mid' state'' then (suc k) w at' none = then.states k w at' none

      go : (mid : Pass) → ArePassed boxes slots dt begin a mid → (length mid.rows ≡ count → ((x : Place) → Takes (Box b) x → IsLed d x → (at_row mid.rows top x ≡ true) ↔ Coming x) → AreBegun b ps mid m)
          → (o : Option Operand) → pin.operand ≡ o → MatchOption o (Begins d top p begin) (λ w. begin ≡ []) → AreBegun b (pin ∷ ps) a m
      go mid before more None is begins' =
          let takes : Takes (Box b) p = pins 0 pin refl in
          let one = begun n (Box b) p a mid begin at takes long (led p takes) begins' before in
          together mid one.rest one.long
          (λ q ge free. one.outside q ge (λ e. free p takes (sym e)))
          (λ x takes' h. elim (cases_eq x.row p.row) [
            | inl same ↦ let Q : Place → Type 0 = λ w. (at_row mid.rows top w ≡ true) ↔ Coming w in subst Q (place_same p x (sym same) (sym takes'.0)) one.state
            | inr ne ↦
                let ge = (sweeping.in_rows d top count conducts IsSource sound rows_in no_source rail_source n (Box b) x at (inr (inr (inl takes')))).0 in
                let same = one.outside x ge ne in
                ((λ on. h.0 (sym same ∙ on)), (λ comes. same ∙ h.1 comes))
          ])
          (λ none. one.state) more
      go mid before more (Some w) is none =
          let P : List Step → Type 0 = λ s. ArePassed boxes slots dt s a mid in
          let same : mid ≡ a = subst P none before in
          let Q : Pass → Type 0 = λ x. IsRest a x in
          together mid (subst Q (sym same) (record { memories = refl; links = refl; results = refl })) (ap (λ (x : Pass). length x.rows) same)
          (λ q ge free. ap (λ (x : Pass). at_row x.rows top q) same)
          (λ x takes h. let R : Pass → Type 0 = λ y. (at_row y.rows top x ≡ true) ↔ Coming x in subst R (sym same) h)
          (λ empty. absurd (let no : Some w ≡ None = sym is ∙ empty in cc)) more

  seen_box : (old : List Bool) (n : ℕ) (b : DrawnBox) (part : List Step) (a m : Pass) → slice_get d.elements n ≡ Some (Box b) → AreBoundBoxes ds d top boxes
      → ((e : BoundBox) (rows : List Bool) → slice_get boxes (box_number n) ≡ Some e → slice_get m.results (box_number n) ≡ Some (box_result e slots dt rows) → (q : Place) → Gives (Box b) q → IsMarked e.outputs.items (box_result e slots dt rows).outputs (q.row - top) ↔ IsSource q)
      → Seen old n a → AreStepsOf ds d top n (Box b) part → ArePassed boxes slots dt part a m → Seen old (n + 1) m
  seen_box old n b part a m at bound shown seen steps passed =
      let P : List Step → Type 0 = λ w. ArePassed boxes slots dt w a m in
      let parts = passed_append boxes slots dt (joined steps.0) (step.Box (box_number n) ∷ []) a m (subst P steps.2 passed) in
      let Q : Pass → Type 0 = λ w. IsBoxObeyed boxes slots dt (box_number n) parts.0 w in
      after parts.0 parts.1 (subst Q (sym parts.2.2) parts.2.1)
    where
      left_takes : (k : ℕ) (pin : DrawnPin) → slice_get (left_pins b.pins) k ≡ Some pin → Takes (Box b) (place pin.row b.left)
      left_takes k pin at' =
          let in' = left_pin_in b.pins k pin at' in
          let found = at_contains b.pins pin in'.0 in
          (refl, any_at (λ w. (w.side ≡ Left) × (w.row ≡ pin.row)) b.pins found.0 pin found.1 (in'.1, refl))

      box_is : (e : BoundBox) → slice_get boxes (box_number n) ≡ Some e → IsBoundBox ds top b e
      box_is e at' =
          let found = zip_at (IsBoundBox ds top) (boxes_of d.elements) boxes bound.bound (box_number n) b (number_at box_of d.elements n (Box b) b at refl) in
          let R : BoundBox → Type 0 = λ x. IsBoundBox ds top b x in
          subst R (some_same (sym found.1 ∙ at')) found.2

      has_output : (e : BoundBox) → IsBoundBox ds top b e → (q : Place) → Gives (Box b) q → HasOutput e.outputs.items (q.row - top)
      has_output e is q gives =
          let pin = any_found (λ w. (w.side ≡ Right) × (w.row ≡ q.row)) b.pins gives.1 in
          let right = right_pin_at b.pins pin.1 pin.0 pin.2 pin.3.0 in
          let o = zip_at (IsBoundOutput ds top e.block) (right_pins b.pins) e.outputs.items is.outputs right.0 pin.1 right.1 in
          any_at (λ w. w.row ≡ q.row - top) e.outputs.items right.0 o.0 o.1 (o.2.row ∙ ap (λ r. r - top) pin.3.1)

      no_output : (e : BoundBox) → IsBoundBox ds top b e → (q : Place) → top ≤ q.row → ((x : Place) → Touches (Box b) x → x.row ≡ q.row → ⊥) → HasOutput e.outputs.items (q.row - top) → ⊥
      no_output e is q ge free has =
          let o = any_found (λ w. w.row ≡ q.row - top) e.outputs.items has in
          let pin = zip_back (IsBoundOutput ds top e.block) (right_pins b.pins) e.outputs.items is.outputs o.0 o.1 o.2 in
          let right = right_pin_in b.pins o.0 pin.0 pin.1 in
          let found = at_contains b.pins pin.0 right.0 in
          let gives : Gives (Box b) (place pin.0.row b.right) = (refl, any_at (λ w. (w.side ≡ Right) × (w.row ≡ pin.0.row)) b.pins found.0 pin.0 found.1 (right.1, refl)) in
          let in' = (sweeping.in_rows d top count conducts IsSource sound rows_in no_source rail_source n (Box b) (place pin.0.row b.right) at (inr (inl gives))).0 in
          let one = o.3 in
          let two = pin.2.row in
          free (place pin.0.row b.right) (inr gives) (omega arith)

      after : (mid : Pass) → ArePassed boxes slots dt (joined steps.0) a mid → IsBoxObeyed boxes slots dt (box_number n) mid m → Seen old (n + 1) m
      after mid before obeyed =
          let long = known_long n a.rows seen.known in
          let begins = pins_begun n b at (left_pins b.pins) steps.0 steps.1 left_takes a mid long (λ p takes led. led_here n (Box b) p a.rows at takes takes.0 seen.known led) before in
          let e = obeyed.box in
          let i = box_result e slots dt mid.rows in
          let is = box_is e obeyed.at in
          let in_boxes = slice_get_within boxes (box_number n) e obeyed.at in
          let results_long = seen.results_long in
          let mid_results = ap (λ (w : List Instance). length w) begins.rest.results in
          let result_here : slice_get m.results (box_number n) ≡ Some i = ap (λ w. slice_get w (box_number n)) obeyed.results ∙ slice_get-set_same mid.results (box_number n) i (omega arith) in
          let known : Known (n + 1) m.rows = sweeping.box_known d top count conducts IsSource sound rows_in no_source rail_source n b a.rows m.rows at seen.known (obeyed.shown.long ∙ begins.long)
          (λ q ge free. obeyed.shown.outside (q.row - top) (no_output e is q ge free) ∙ begins.outside q ge (λ x takes. free x (inl takes)))
          (λ q gives.
          let w = obeyed.shown.within (q.row - top) (has_output e is q gives) in
          let s = shown e mid.rows obeyed.at result_here q gives in
          ((λ on. s.0 (w.0 on)), (λ source. w.1 (s.1 source)))) in
          let new_memories = obeyed.memories ∙ begins.rest.memories in
          let new_links = obeyed.links ∙ begins.rest.links in
          seen_from old n (Box b) a m at seen known
          (ap (λ w. length w) new_memories) (λ k ne. ap (λ w. bit_at w k) new_memories) (ap (λ w. bit_at w n) new_memories ∙ seen.later n (omega arith))
          (ap (λ w. length w) new_links) (λ k x less at'. ap (λ w. bit_at w (coil_number k)) new_links) (λ x is'. absurd cc)
          (ap (λ w. length w) obeyed.results ∙ length-set mid.results (box_number n) i ∙ mid_results)
          (λ k x less at'.
          let other = number_less box_of d.elements k n (Box x) x less at' refl in
          ap (λ w. slice_get w (box_number k)) obeyed.results ∙ slice_get-set_other mid.results (box_number n) (box_number k) i (λ e'. omega arith) ∙ ap (λ w. slice_get w (box_number k)) begins.rest.results)
          (λ x is'.
          let R : DrawnBox → Type 0 = λ w. IsMade n w m.results in
          subst R (box_same is') (record {
            box = e;
            rows = mid.rows;
            box_at = obeyed.at;
            result_at = result_here;
            power = λ pin in' side none.
                let found = at_contains b.pins pin in' in
                let left = left_pin_at b.pins pin found.0 found.1 side in
                let state = begins.states left.0 pin left.1 none in
                let power = symbol_power n (Box b) (place pin.row b.left) at (left_takes left.0 pin left.1) (λ s. s) in
                ((λ on. power.0 (state.0 on)), (λ on. state.1 (power.1 on)));
          }))

  begins_results : (p : Place) (steps : List Step) (a b : Pass) → Begins d top p steps → ArePassed boxes slots dt steps a b → b.results ≡ a.results
  begins_results p steps a b (goes_on led) passed = ap (λ (w : Pass). w.results) passed
  begins_results p steps a b (at_rail rail) passed = ap (λ (w : Pass). w.results) (passed.2 ∙ passed.1)
  begins_results p steps a b (is_off one two) passed = ap (λ (w : Pass). w.results) (passed.2 ∙ passed.1)

  joins_results : (p : Place) (steps : List Step) (a b : Pass) → Joins d top p steps → ArePassed boxes slots dt steps a b → b.results ≡ a.results
  joins_results p steps a b (within next) passed = ap (λ (w : Pass). w.results) passed
  joins_results p steps a b (lowest first up) passed = ap (λ (w : Pass). w.results) passed.2 ∙ passed.1.3

  pins_results : (x : DrawnBox) (ps : List DrawnPin) (begins : List (List Step)) → AllZip (IsLeftPinBegun d top x) ps begins → (a b : Pass) → ArePassed boxes slots dt (joined begins) a b → b.results ≡ a.results
  pins_results x [] [] z a b passed = ap (λ (w : Pass). w.results) passed
  pins_results x [] (begin ∷ begins) z a b passed = absurd z
  pins_results x (pin ∷ ps) [] z a b passed = absurd z
  pins_results x (pin ∷ ps) (begin ∷ begins) z a b passed =
      let parts = passed_append boxes slots dt begin (joined begins) a b passed in
      pins_results x ps begins z.1 parts.0 b parts.2 ∙ one pin.operand z.0 parts.0 parts.1
    where
      one : (o : Option Operand) → MatchOption o (Begins d top (place pin.row x.left) begin) (λ w. begin ≡ []) → (mid : Pass) → ArePassed boxes slots dt begin a mid → mid.results ≡ a.results
      one None begins' mid before = begins_results (place pin.row x.left) begin a mid begins' before
      one (Some w) none mid before = let P : List Step → Type 0 = λ s. ArePassed boxes slots dt s a mid in ap (λ (y : Pass). y.results) (subst P none before)

  -- an element leaves the results of other boxes
  part_results : (n : ℕ) (f : Element) (part : List Step) (a b : Pass) → AreStepsOf ds d top n f part → ArePassed boxes slots dt part a b → (k : ℕ) → (k ≡ box_number n → ⊥) → slice_get b.results k ≡ slice_get a.results k
  part_results n (Wire p) part a b steps passed k ne = ap (λ w. slice_get w k) (begins_results p part a b steps passed)
  part_results n (Join p) part a b steps passed k ne =
      let P : List Step → Type 0 = λ w. ArePassed boxes slots dt w a b in
      let parts = passed_append boxes slots dt steps.0 steps.1 a b (subst P steps.4 passed) in
      ap (λ w. slice_get w k) (joins_results p steps.1 parts.0 b steps.3 parts.2 ∙ begins_results p steps.0 a parts.0 steps.2 parts.1)
  part_results n (Upright p) part a b steps passed k ne =
      let P : List Step → Type 0 = λ w. ArePassed boxes slots dt w a b in
      let parts = passed_append boxes slots dt (step.Off (p.row - top) ∷ []) steps.0 a b (subst P steps.2 passed) in
      ap (λ w. slice_get w k) (joins_results p steps.0 parts.0 b steps.1 parts.2 ∙ ap (λ (w : Pass). w.results) (parts.1.2 ∙ parts.1.1))
  part_results n (Contact c) part a b steps passed k ne =
      let P : List Step → Type 0 = λ w. ArePassed boxes slots dt w a b in
      let parts = passed_append boxes slots dt steps.0 (step.Contact (record { kind = c.kind; row = c.row - top; source = name_source ds c.name; memory = n }) ∷ []) a b (subst P steps.2 passed) in
      ap (λ w. slice_get w k) (ap (λ (w : Pass). w.results) (parts.2.2 ∙ parts.2.1) ∙ begins_results (place c.row c.column) steps.0 a parts.0 steps.1 parts.1)
  part_results n (Coil c) part a b steps passed k ne =
      let P : List Step → Type 0 = λ w. ArePassed boxes slots dt w a b in
      let parts = passed_append boxes slots dt steps.0 (step.Coil (c.row - top) (coil_number n) ∷ []) a b (subst P steps.2 passed) in
      ap (λ w. slice_get w k) (ap (λ (w : Pass). w.results) (parts.2.2 ∙ parts.2.1) ∙ begins_results (place c.row c.column) steps.0 a parts.0 steps.1 parts.1)
  part_results n (Box x) part a b steps passed k ne =
      let P : List Step → Type 0 = λ w. ArePassed boxes slots dt w a b in
      let parts = passed_append boxes slots dt (joined steps.0) (step.Box (box_number n) ∷ []) a b (subst P steps.2 passed) in
      let obeyed = parts.2.1 in
      ap (λ (w : Pass). slice_get w.results k) parts.2.2 ∙ ap (λ w. slice_get w k) obeyed.results
      ∙ slice_get-set_other parts.0.results (box_number n) k (box_result obeyed.box slots dt parts.0.rows) ne
      ∙ ap (λ w. slice_get w k) (pins_results x (left_pins x.pins) steps.0 steps.1 a parts.0 parts.1)

  -- the steps from the element n on leave the results of earlier boxes
  pub later_results : (ps : List (List Step)) (n : ℕ) → length ps + n ≡ length d.elements
      → ((k : ℕ) (e : Element) (part : List Step) → slice_get d.elements (n + k) ≡ Some e → slice_get ps k ≡ Some part → AreStepsOf ds d top (n + k) e part)
      → (a b : Pass) → ArePassed boxes slots dt (joined ps) a b → (k : ℕ) (x : DrawnBox) → k < n → slice_get d.elements k ≡ Some (Box x) → slice_get b.results (box_number k) ≡ slice_get a.results (box_number k)
  later_results [] n long each a b passed k x lt at = ap (λ (w : Pass). slice_get w.results (box_number k)) passed
  later_results (part ∷ ps) n long each a b passed k x lt at =
      let more : suc (length ps) + n ≡ length d.elements = long in
      let parts = passed_append boxes slots dt part (joined ps) a b passed in
      let e = element_at d.elements n (omega arith) in
      let here : n + 0 ≡ n = omega arith in
      let A : ℕ → Type 0 = λ w. slice_get d.elements w ≡ Some e.0 in
      let S : ℕ → Type 0 = λ w. AreStepsOf ds d top w e.0 part in
      let steps = subst S here (each 0 e.0 part (subst A (sym here) e.1) refl) in
      later_results ps (n + 1) (omega arith) (λ j f p at' in'.
      let along : n + suc j ≡ n + 1 + j = omega arith in
      let B : ℕ → Type 0 = λ w. slice_get d.elements w ≡ Some f in
      let T : ℕ → Type 0 = λ w. AreStepsOf ds d top w f p in
      subst T along (each (suc j) f p (subst B (sym along) at') in')) parts.0 b parts.2 k x (omega arith) at
      ∙ part_results n e.0 part a parts.0 steps parts.1 (box_number k) (λ same. let other = number_less box_of d.elements k n (Box x) x lt at refl in omega arith)

  module _ (old : List Bool) (results : List Instance) (bound : AreBoundBoxes ds d top boxes)
      (reads : (k : ℕ) (c : DrawnContact) → slice_get d.elements k ≡ Some (Contact c) → conducts k ≡ contact_conducts c.kind (is_true (source_value slots (name_source ds c.name))) (bit_at old k))
      (lets_coil : (k : ℕ) (c : DrawnCoil) → slice_get d.elements k ≡ Some (Coil c) → conducts k ≡ true)
      (shown : (k : ℕ) (b : DrawnBox) → slice_get d.elements k ≡ Some (Box b) → (e : BoundBox) (rows : List Bool) → slice_get boxes (box_number k) ≡ Some e → slice_get results (box_number k) ≡ Some (box_result e slots dt rows)
      → (q : Place) → Gives (Box b) q → IsMarked e.outputs.items (box_result e slots dt rows).outputs (q.row - top) ↔ IsSource q) where
    pub seen_more : (n : ℕ) (f : Element) (part : List Step) (a b : Pass) → slice_get d.elements n ≡ Some f → Seen old n a → AreStepsOf ds d top n f part → ArePassed boxes slots dt part a b
        → ((x : DrawnBox) → f ≡ Box x → slice_get results (box_number n) ≡ slice_get b.results (box_number n)) → Seen old (n + 1) b
    seen_more n (Wire p) part a b at seen steps passed kept = seen_wire old n p part a b at seen steps passed
    seen_more n (Join p) part a b at seen steps passed kept = seen_join old n p part a b at seen steps passed
    seen_more n (Upright p) part a b at seen steps passed kept = seen_upright old n p part a b at seen steps passed
    seen_more n (Contact c) part a b at seen steps passed kept = seen_contact old n c part a b at (reads n c at) seen steps passed
    seen_more n (Coil c) part a b at seen steps passed kept = seen_coil old n c part a b at (lets_coil n c at) seen steps passed
    seen_more n (Box x) part a b at seen steps passed kept = seen_box old n x part a b at bound (λ e rows box_at result_at. shown n x at e rows box_at (kept x refl ∙ result_at)) seen steps passed

    -- all elements, one after the other
    pub swept : (ps : List (List Step)) (n : ℕ) → length ps + n ≡ length d.elements
        → ((k : ℕ) (e : Element) (part : List Step) → slice_get d.elements (n + k) ≡ Some e → slice_get ps k ≡ Some part → AreStepsOf ds d top (n + k) e part)
        → (a b : Pass) → Seen old n a → ArePassed boxes slots dt (joined ps) a b → b.results ≡ results → Seen old (length d.elements) b
    swept [] n long each a b seen passed same =
        let none : length {A = List Step} [] ≡ 0 = refl in
        let all : n ≡ length d.elements = omega arith in
        let P : Pass → Type 0 = λ w. Seen old (length d.elements) w in
        let Q : ℕ → Type 0 = λ k. Seen old k a in
        subst P (sym passed) (subst Q all seen)
    swept (part ∷ ps) n long each a b seen passed same =
        let more : suc (length ps) + n ≡ length d.elements = long in
        let parts = passed_append boxes slots dt part (joined ps) a b passed in
        let e = element_at d.elements n (omega arith) in
        let here : n + 0 ≡ n = omega arith in
        let A : ℕ → Type 0 = λ w. slice_get d.elements w ≡ Some e.0 in
        let S : ℕ → Type 0 = λ w. AreStepsOf ds d top w e.0 part in
        let steps = subst S here (each 0 e.0 part (subst A (sym here) e.1) refl) in
        let each' : (k : ℕ) (f : Element) (p : List Step) → slice_get d.elements (n + 1 + k) ≡ Some f → slice_get ps k ≡ Some p → AreStepsOf ds d top (n + 1 + k) f p = λ j f p at' in'.
        let along : n + suc j ≡ n + 1 + j = omega arith in
        let B : ℕ → Type 0 = λ w. slice_get d.elements w ≡ Some f in
        let T : ℕ → Type 0 = λ w. AreStepsOf ds d top w f p in
        subst T along (each (suc j) f p (subst B (sym along) at') in') in
        let one = seen_more n e.0 part a parts.0 e.1 seen steps parts.1 (λ x is.
        let C : Element → Type 0 = λ w. slice_get d.elements n ≡ Some w in
        ap (λ w. slice_get w (box_number n)) (sym same) ∙ later_results ps (n + 1) (omega arith) each' parts.0 b parts.2 n x (omega arith) (subst C is e.1)) in
        swept ps (n + 1) (omega arith) each' parts.0 b one parts.2 same

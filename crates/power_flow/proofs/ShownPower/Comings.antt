-- What was told of each element says whether state comes to it.
use Rattle.std.proofs.Common.{◌≡◌, ℕ, zero, suc, ◌+◌, ◌-◌, ◌<◌, ◌≤◌, ◌↔◌, inl, inr, List, [], ◌∷◌, Bool, true, false, Some, Contains, slice_get, length, take, refl, sym, ap, ◌∙◌, subst, arith}
use Rattle.std.proofs.lemmas.Option.{slice_get_within}
use Rattle.lists.proofs.Places.{some_same, element_at}
use Rattle.lists.proofs.Members.{contains_at, any_at, any_found}
use Rattle.drawings.specs.declared.place.Place.{Place}
use Rattle.drawings.specs.Symbols.{Contact as DrawnContact}
use Rattle.drawings.specs.Symbols.{Coil as DrawnCoil}
use Rattle.drawings.specs.declared.drawn_box.DrawnBox.{DrawnBox}
use Rattle.drawings.specs.declared.drawn_box.Side.TheVariants.{Left}
use Rattle.network.specs.declared.element.Element.{Element}
use Rattle.network.specs.declared.element.Element.TheVariants.{Wire, Join, Upright, Contact, Coil, Box}
use Rattle.network.specs.Links.{Diagram, place, Gives, Takes}
use Rattle.network.specs.Apart.{first_place, Has}
use Rattle.network.specs.GraphValue.{IsSoundNetwork}
use Rattle.declared_names.specs.declared.declarations.Declaration.{Declaration}
use Rattle.scan_steps.specs.declared.slot.Instance.{Instance}
use Rattle.scan_steps.specs.declared.slot.Slot.{Slot}
use Rattle.scan_steps.specs.declared.bound_box.BoundBox.{BoundBox}
use Rattle.scan_steps.specs.declared.step.Step.{Step}
use Rattle.scan_steps.specs.Conducting.{bit_at, contact_conducts}
use Rattle.scan_steps.specs.Values.{is_true}
use Rattle.scan_steps.specs.Steps.Sources.{source_value}
use Rattle.scan_steps.specs.Steps.Passing.{Pass}
use Rattle.scan_steps.specs.Steps.BoxSteps.{box_result, IsMarked}
use Rattle.power_flow.specs.Steps.NameSources.{name_source}
use Rattle.power_flow.specs.Steps.BoxTable.{AreBoundBoxes}
use Rattle.power_flow.specs.Steps.Columns.{IsStop, AreStepsOf}
use Rattle.power_flow.specs.Steps.Comings.{IsComing, IsComingTo, AreRead}
use Rattle.power_flow.specs.Waiting.{boxes_of}
use Rattle.power_flow.proofs.Walks.PowerWalks.{on_source}
use Rattle.power_flow.proofs.Walks.OnPlaces.{Comes}
use Rattle.power_flow.proofs.Walks.Sweeping as sweeping
use Rattle.power_flow.proofs.Networks.ColumnSteps as steps
use Rattle.power_flow.proofs.ShownPower.Reading.{read_passed}

module _ (ds : List Declaration) (d : Diagram) (top count : ℕ) (boxes : List BoundBox) (slots : List Slot) (dt : ℕ) (conducts : ℕ → Bool) (IsSource : Place → Type 0)
    (sound : IsSoundNetwork d)
    (rows_in : (e : Element) (p : Place) → Contains d.elements e → Has e p → (top ≤ p.row) × (p.row < top + count))
    (no_source : (k : ℕ) (e : Element) (p : Place) → slice_get d.elements k ≡ Some e → IsStop e p → IsSource p → ⊥)
    (rail_source : (p : Place) → Contains d.rails p → IsSource p) where
  abbrev Coming : Place → Type 0
  Coming p = Comes d conducts IsSource p

  abbrev Known : ℕ → List Bool → Type 0
  Known n rows = sweeping.Knows d top count conducts IsSource sound rows_in no_source rail_source n rows

  -- where an element takes state, it comes as the rows tell
  coming_at : (n : ℕ) (f : Element) (p : Place) (rows : List Bool) (on : Bool) → slice_get d.elements n ≡ Some f → Takes f p → p.column ≡ (first_place f).column → Known n rows
      → IsComing d top rows p on → (on ≡ true) ↔ Coming p
  coming_at n f p rows on at takes begins known (inl goes) =
      let led = sweeping.led_known d top count conducts IsSource sound rows_in no_source rail_source n f p rows at takes begins known goes.0 in
      (λ yes. led.0 (sym goes.1 ∙ yes), λ comes. goes.1 ∙ led.1 comes)
  coming_at n f p rows on at takes begins known (inr begun) = (
    λ yes.
        let rail = begun.1.0 yes in (
          rail.from,
          record { row = rail.row; column = rail.column; gives = inl rail.rail; takes = any_at (λ e. Takes e p) d.elements n f at takes },
          (on_source d conducts IsSource rail.from (rail_source rail.from rail.rail), steps.rail_lets ds d top count boxes slots dt conducts IsSource sound rows_in no_source rail_source rail.from rail.rail),
        ),
    λ comes. elim comes.1.gives [
      | inl rail ↦ begun.1.1 (record { from = comes.0; row = comes.1.row; column = comes.1.column; rail = rail })
      | inr gives ↦ absurd (begun.0 (record { from = comes.0; row = comes.1.row; column = comes.1.column; gives = gives }))
    ],
  )

  -- none comes where no element takes it
  none_comes : (n : ℕ) (f : Element) (p : Place) → slice_get d.elements n ≡ Some f → Has f p → (Takes f p → ⊥) → Coming p → ⊥
  none_comes n f p at has none comes =
      let found = any_found (λ e. Takes e p) d.elements comes.1.takes in
      let same = sound.apart.elements found.0 n found.1 f p found.2 at (inr (inr (inl found.3))) has in
      let is : found.1 ≡ f = some_same (sym found.2 ∙ ap (slice_get d.elements) same ∙ at) in
      let P : Element → Type 0 = λ e. Takes e p in
      none (subst P is found.3)

  corner_takes : (b : DrawnBox) → Contains d.elements (Box b) → Takes (Box b) (place b.top b.left) → ⊥
  corner_takes b in' takes =
      let pin = any_found (λ w. (w.side ≡ Left) × (w.row ≡ b.top)) b.pins takes.1 in
      let within = sound.pins b pin.1 in' (contains_at b.pins pin.0 pin.1 pin.2) in
      let above = within.0 in
      let here = pin.3.1 in
      omega arith

  never : (on : Bool) (p : Place) → on ≡ false → (Coming p → ⊥) → (on ≡ true) ↔ Coming p
  never on p off none = (λ yes. absurd (let clash : false ≡ true = sym off ∙ yes in cc), λ comes. absurd (none comes))

  -- what is told of an element before its steps are passed
  coming_told : (n : ℕ) (f : Element) (rows : List Bool) (on : Bool) → slice_get d.elements n ≡ Some f → Known n rows → IsComingTo d top rows f on → (on ≡ true) ↔ Coming (first_place f)
  coming_told n (Wire p) rows on at known told = coming_at n (Wire p) p rows on at refl refl known told
  coming_told n (Join p) rows on at known told = coming_at n (Join p) p rows on at refl refl known told
  coming_told n (Upright p) rows on at known told = never on p told (none_comes n (Upright p) p at (inl refl) (λ t. t))
  coming_told n (Contact c) rows on at known told = coming_at n (Contact c) (place c.row c.column) rows on at (refl, omega arith, omega arith) refl known told
  coming_told n (Coil c) rows on at known told = coming_at n (Coil c) (place c.row c.column) rows on at (refl, omega arith, omega arith) refl known told
  coming_told n (Box b) rows on at known told =
      never on (place b.top b.left) told (none_comes n (Box b) (place b.top b.left) at (inl refl) (corner_takes b (contains_at d.elements n (Box b) at)))

  module _ (old : List Bool) (results : List Instance) (bound : AreBoundBoxes ds d top boxes)
      (reads : (k : ℕ) (c : DrawnContact) → slice_get d.elements k ≡ Some (Contact c) → conducts k ≡ contact_conducts c.kind (is_true (source_value slots (name_source ds c.name))) (bit_at old k))
      (lets_coil : (k : ℕ) (c : DrawnCoil) → slice_get d.elements k ≡ Some (Coil c) → conducts k ≡ true)
      (shown : (k : ℕ) (b : DrawnBox) → slice_get d.elements k ≡ Some (Box b) → (e : BoundBox) (rows : List Bool) → slice_get boxes (length (boxes_of (take k d.elements))) ≡ Some e
      → slice_get results (length (boxes_of (take k d.elements))) ≡ Some (box_result e slots dt rows)
      → (q : Place) → Gives (Box b) q → IsMarked e.outputs.items (box_result e slots dt rows).outputs (q.row - top) ↔ IsSource q) where
    abbrev Seen : ℕ → Pass → Type 0
    Seen n a = steps.Seen ds d top count boxes slots dt conducts IsSource sound rows_in no_source rail_source old n a

    known_of : (n : ℕ) (a : Pass) → Seen n a → Known n a.rows
    known_of n a seen = seen.known

    -- all elements, one after the other
    pub comings_are : (ps : List (List Step)) (bits : List Bool) (n : ℕ) → length ps + n ≡ length d.elements
        → ((k : ℕ) (e : Element) (part : List Step) → slice_get d.elements (n + k) ≡ Some e → slice_get ps k ≡ Some part → AreStepsOf ds d top (n + k) e part)
        → (a b : Pass) → Seen n a → AreRead d top boxes slots dt n ps bits a b → b.results ≡ results
        → (k : ℕ) (e : Element) → slice_get d.elements (n + k) ≡ Some e → (bit_at bits k ≡ true) ↔ Coming (first_place e)
    comings_are [] [] n long each a b seen read same k e at =
        let none : length {A = List Step} [] ≡ 0 = refl in
        let lt = slice_get_within d.elements (n + k) e at in
        absurd (omega arith)
    comings_are [] (bit ∷ bits) n long each a b seen read same k e at = absurd read
    comings_are (part ∷ ps) [] n long each a b seen read same k e at = absurd read
    comings_are (part ∷ ps) (bit ∷ bits) n long each a b seen read same zero e at =
        let here : n + 0 ≡ n = omega arith in
        let at' : slice_get d.elements n ≡ Some e = ap (slice_get d.elements) (sym here) ∙ at in
        coming_told n e a.rows bit at' (known_of n a seen) (read.1 e at')
    comings_are (part ∷ ps) (bit ∷ bits) n long each a b seen read same (suc k) e at =
        let more : suc (length ps) + n ≡ length d.elements = long in
        let first = element_at d.elements n (omega arith) in
        let here : n + 0 ≡ n = omega arith in
        let A : ℕ → Type 0 = λ w. slice_get d.elements w ≡ Some first.0 in
        let S : ℕ → Type 0 = λ w. AreStepsOf ds d top w first.0 part in
        let own = subst S here (each 0 first.0 part (subst A (sym here) first.1) refl) in
        let each' : (j : ℕ) (f : Element) (p : List Step) → slice_get d.elements (n + 1 + j) ≡ Some f → slice_get ps j ≡ Some p → AreStepsOf ds d top (n + 1 + j) f p = λ j f p there in'.
        let along : n + suc j ≡ n + 1 + j = omega arith in
        let B : ℕ → Type 0 = λ w. slice_get d.elements w ≡ Some f in
        let T : ℕ → Type 0 = λ w. AreStepsOf ds d top w f p in
        subst T along (each (suc j) f p (subst B (sym along) there) in') in
        let rest = read_passed d top boxes slots dt (n + 1) ps bits read.0 b read.3 in
        let one = steps.seen_more ds d top count boxes slots dt conducts IsSource sound rows_in no_source rail_source old results bound reads lets_coil shown n first.0 part a read.0 first.1 seen own read.2 (λ x is.
        let C : Element → Type 0 = λ w. slice_get d.elements n ≡ Some w in
        ap (λ w. slice_get w (length (boxes_of (take n d.elements)))) (sym same)
        ∙ steps.later_results ds d top count boxes slots dt conducts IsSource sound rows_in no_source rail_source ps (n + 1) (omega arith) each' read.0 b rest n x (omega arith) (subst C is first.1)) in
        let later : n + suc k ≡ n + 1 + k = omega arith in
        comings_are ps bits (n + 1) (omega arith) each' read.0 b one read.3 same k e (ap (slice_get d.elements) (sym later) ∙ at)

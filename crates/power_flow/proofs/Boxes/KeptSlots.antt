-- What is stored is of the kind that its slot keeps.
use Rattle.std.proofs.Common.{◌≡◌, ℕ, ◌+◌, ◌<◌, ◌⊎◌, ◌≢◌, inl, inr, List, [], ◌∷◌, ◌++◌, Bool, Option, Some, None, Contains, set, length-set, get_or, take, drop, length, slice_get, map, sum_by, refl, sym, ap, ◌∙◌, subst, arith}
use Rattle.std.specs.Option.{option_map}
use Rattle.std.specs.List.{AllByRecursion, flat_map, enumerate_from}
use Rattle.std.proofs.lemmas.Bool.{cases_eq}
use Rattle.std.proofs.lemmas.List.{get_or-set_same, get_or-set_other}
use Rattle.std.proofs.lemmas.Option.{slice_get-get_or, get_or_from_slice_get, slice_get_within}
use Rattle.std_blocks.specs.declared.value.Value.{Value}
use Rattle.std_blocks.specs.declared.value.Value.TheVariants.{Bool as BoolValue}
use Rattle.drawings.specs.Symbols.{Coil as DrawnCoil}
use Rattle.drawings.specs.declared.drawn_box.DrawnBox.{DrawnBox}
use Rattle.network.specs.declared.element.Element.{Element}
use Rattle.network.specs.declared.element.Element.TheVariants.{Wire, Join, Upright, Contact, Coil, Box}
use Rattle.network.specs.Links.{Diagram}
use Rattle.declared_names.specs.declared.declarations.Declaration.{Declaration}
use Rattle.declared_names.specs.declared.declarations.Declared.{Declared}
use Rattle.declared_names.specs.declared.declarations.Declared.TheVariants.{Input, Output, Local, Instance}
use Rattle.declared_names.specs.declared.declarations.Kind.TheVariants as kind
use Rattle.scan_steps.specs.declared.slot.Slot.{Slot}
use Rattle.scan_steps.specs.declared.slot.Slot.TheVariants.{Variable}
use Rattle.scan_steps.specs.Conducting.{bit_at}
use Rattle.declared_names.specs.Names.{place_of}
use Rattle.power_flow.specs.Values.{value_at, slot_value}
use Rattle.declared_names.specs.Kinds.{kind_of}
use Rattle.power_flow.specs.StateValue.{StateValue}
use Rattle.scan_steps.specs.Slots.{IsSlotOf, AreSlotsOf}
use Rattle.drawings.specs.declared.place.Place.{Place}
use Rattle.std.proofs.lemmas.List.Sums.{sum_by-cons}
use Rattle.power_flow.specs.declared.steps.circuit.Circuit.{Circuit}
use Rattle.power_flow.specs.Steps.Circuit.{circuit_diagram}
use Rattle.power_flow.specs.LadderValue.{LadderValue, Fits}
use Rattle.name_faults.specs.BindFaults.{IsVariable}
use Rattle.declared_names.specs.declared.declarations.Kind.{Kind}
use Rattle.scan_steps.specs.declared.slot.Instance.{Instance as InstanceRecord}
use Rattle.scan_steps.specs.declared.slot.Slot.TheVariants.{Block}
use Rattle.name_faults.specs.PinKinds.{field_kind}
use Rattle.name_faults.specs.Steps.Named.{IsNamedBox, IsDeclaredVariable, AreNamed}
use Rattle.std_blocks.specs.declared.pin.Field.{Field}
use Rattle.std_blocks.specs.declared.pin.Field.TheVariants.{Bit, Int, Time}
use Rattle.std_blocks.specs.declared.pins.PinsOut.{PinsOut}
use Rattle.std_blocks.specs.Pins.{pin_of, output, field_value}
use Rattle.std_blocks.specs.Blocks.{after, outputs_after}
use Rattle.drawings.specs.declared.drawn_box.DrawnPin.{DrawnPin}
use Rattle.drawings.specs.declared.drawn_box.Operand.{Operand}
use Rattle.drawings.specs.declared.drawn_box.Side.{Side}
use Rattle.drawings.specs.declared.drawn_box.Side.TheVariants.{Left, Right}
use Rattle.std.specs.Option.{option_and_then, option_map_or}
use Rattle.lists.proofs.Members.{cons_first, cons_later}
use Rattle.power_flow.proofs.Boxes.BoxesBinding.{declared_place}
use Rattle.power_flow.proofs.Boxes.BoxesSources.{block_at, pin_value, block_kept}
use Rattle.power_flow.proofs.Ladders.Determinism.{box_cases}
use Rattle.power_flow.specs.Meaning.{Moment, moment, NetworkMeaning, BlocksStep, stored, stores, store, coil_stores, coil_value, result_stores, side_stores}
use Rattle.power_flow.specs.Scan.{ScanMeaning}

-- what is stored is of the declared kind
abbrev pub IsRight : List Declaration → ℕ × Value → Type 0
IsRight ds s = (e : Declaration) → slice_get ds s.0 ≡ Some e → IsSlotOf e.declared (Variable s.1)

set_keeps : (ds : List Declaration) (slots : List Slot) (place : ℕ) (v : Value) → IsRight ds (place, v) → AreSlotsOf ds slots → AreSlotsOf ds (set slots place (Variable v))
set_keeps ds slots place v right h = record {
  long = length-set slots place (Variable v) ∙ h.long;
  each = λ k e s declared found. by k e s declared found (cases_eq k place);
}
  where
    by : (k : ℕ) (e : Declaration) (s : Slot) → slice_get ds k ≡ Some e → slice_get (set slots place (Variable v)) k ≡ Some s → (k ≡ place) ⊎ (k ≢ place) → IsSlotOf e.declared s
    by k e s declared found (inl same) =
        let inside : k < length slots = omega (arith, slice_get_within (set slots place (Variable v)) k s found, length-set slots place (Variable v)) in
        let there : get_or (set slots place (Variable v)) k s ≡ Variable v =
        ap (λ (i : ℕ). get_or (set slots i (Variable v)) k s) (sym same) ∙ get_or-set_same slots k (Variable v) s inside in
        let is : s ≡ Variable v = sym (get_or_from_slice_get (set slots place (Variable v)) k s s found) ∙ there in
        subst (IsSlotOf e.declared) (sym is) (right e (ap (slice_get ds) (sym same) ∙ declared))
    by k e s declared found (inr apart) =
        let inside : k < length slots = omega (arith, slice_get_within (set slots place (Variable v)) k s found, length-set slots place (Variable v)) in
        h.each k e s declared (slice_get-get_or slots k s inside ∙ ap Some (sym (get_or-set_other slots place k (Variable v) s apart) ∙ get_or_from_slice_get (set slots place (Variable v)) k s s found))

stored_keeps : (ds : List Declaration) (slots : List Slot) (ss : List (ℕ × Value)) → AllByRecursion (IsRight ds) ss → AreSlotsOf ds slots → AreSlotsOf ds (stored slots ss)
stored_keeps ds slots [] right h = h
stored_keeps ds slots (s ∷ ss) right h = stored_keeps ds (set slots s.0 (Variable s.1)) ss right.1 (set_keeps ds slots s.0 s.1 right.0 h)

pub both : (ds : List Declaration) (xs ys : List (ℕ × Value)) → AllByRecursion (IsRight ds) xs → AllByRecursion (IsRight ds) ys → AllByRecursion (IsRight ds) (xs ++ ys)
both ds [] ys h k = k
both ds (x ∷ xs) ys h k = (h.0, both ds xs ys h.1 k)

-- a value of the declared kind may stand there
kept_kind : (w : Declared) (k : Kind) (v : Value) → IsVariable w k → kind_of v ≡ k → IsSlotOf w (Variable v)
kept_kind (Input j) k v is same = same ∙ sym is
kept_kind (Output j) k v is same = same ∙ sym is
kept_kind (Local j) k v is same = same ∙ sym is
kept_kind (Instance block) k v is same = absurd is

-- a store at a variable of the kind is of the declared kind
pub store_right : (ds : List Declaration) (name : List ℕ) (k : Kind) (v : Value) → IsDeclaredVariable ds name k → kind_of v ≡ k → AllByRecursion (IsRight ds) (store (place_of ds name) (Some v))
store_right ds name k v (w, at, is) same = by (place_of ds name) place.2
  where
    place : (k : ℕ) × (e : Declaration) × (place_of ds name ≡ Some k) × (slice_get ds k ≡ Some e) × (e.declared ≡ w)
    place = declared_place ds name w at

    by : (o : Option ℕ) → o ≡ Some place.0 → AllByRecursion (IsRight ds) (store o (Some v))
    by None at' = absurd (cc)
    by (Some n) at' = (
      λ e there.
          (let here : n ≡ place.0 = cc in
          let entry : Some place.1 ≡ Some e = sym place.3 ∙ ap (slice_get ds) (sym here) ∙ there in
          let one : place.1 ≡ e = cc in
          let declared : e.declared ≡ w = ap (λ (x : Declaration). x.declared) (sym one) ∙ place.4 in
          subst (λ d. IsSlotOf d (Variable v)) (sym declared) (kept_kind w k v is same)),
      tt,
    )

pub coil_right : (ds : List Declaration) (name : List ℕ) (value : Option Bool) → IsDeclaredVariable ds name kind.Bool → AllByRecursion (IsRight ds) (store (place_of ds name) (option_map BoolValue value))
coil_right ds name (Some b) at = store_right ds name kind.Bool (BoolValue b) at refl
coil_right ds name None at = by (place_of ds name)
  where
    by : (o : Option ℕ) → AllByRecursion (IsRight ds) (store o None)
    by None = tt
    by (Some n) = tt

coils_right : (ds : List Declaration) (old : Moment) (links : List Bool) (n : ℕ) (es : List Element) → ((c : DrawnCoil) → Contains es (Coil c) → IsDeclaredVariable ds c.name kind.Bool)
    → AllByRecursion (IsRight ds) (flat_map (λ e. coil_stores ds old links e.0 e.1) (enumerate_from n es))
coils_right ds old links n [] named = tt
coils_right ds old links n (e ∷ es) named =
    both ds (coil_stores ds old links n e) (flat_map (λ e. coil_stores ds old links e.0 e.1) (enumerate_from (n + 1) es))
    (one e refl) (coils_right ds old links (n + 1) es (λ c in'. named c (cons_later e es (Coil c) in')))
  where
    one : (x : Element) → x ≡ e → AllByRecursion (IsRight ds) (coil_stores ds old links n x)
    one (Wire at) is = tt
    one (Join at) is = tt
    one (Upright at) is = tt
    one (Contact c) is = tt
    one (Coil c) is =
        coil_right ds c.name (coil_value c.kind (bit_at links n) (bit_at old.memories n)) (named c (subst (λ x. Contains (e ∷ es) x) (sym is) (cons_first e es)))
    one (Box b) is = tt

-- a step of a block leaves one of its type
between_keeps : (ds : List Declaration) (d : Diagram) (dt : ℕ) (old : Moment) (between : List Slot) → BlocksStep ds d dt old between → AreSlotsOf ds old.slots → AreSlotsOf ds between
between_keeps ds d dt old between step fits = record { long = step.same_length ∙ fits.long; each = λ k e s declared found. by k e s declared found (box_cases ds d.elements old.slots k) }
  where
    block_right : (w : Declared) (i j : InstanceRecord) → j.state.block ≡ i.state.block → IsSlotOf w (Block i) → IsSlotOf w (Block j)
    block_right (Input k) i j same h = h
    block_right (Output k) i j same h = h
    block_right (Local k) i j same h = h
    block_right (Instance b) i j same h = same ∙ h

    by : (k : ℕ) (e : Declaration) (s : Slot) → slice_get ds k ≡ Some e → slice_get between k ≡ Some s
        → ((b : DrawnBox) × (i : InstanceRecord) × Contains d.elements (Box b) × (place_of ds b.instance ≡ Some k) × (slice_get old.slots k ≡ Some (Block i)))
        ⊎ ((b : DrawnBox) (i : InstanceRecord) → Contains d.elements (Box b) → place_of ds b.instance ≡ Some k → slice_get old.slots k ≡ Some (Block i) → ⊥)
        → IsSlotOf e.declared s
    by k e s declared found (inl h) =
        let i = h.1 in
        let made = step.stepped h.0 k i h.2 h.3 h.4 in
        let new : InstanceRecord = record { state = after i.state made.0 dt; outputs = outputs_after i.state made.0 dt } in
        let is : Some s ≡ Some (Block new) = sym found ∙ made.2 in
        let one : s ≡ Block new = cc in
        subst (IsSlotOf e.declared) (sym one) (block_right e.declared i new (block_kept i.state made.0 dt) (fits.each k e (Block i) declared h.4))
    by k e s declared found (inr none) = fits.each k e s declared (sym (step.others k none) ∙ found)

pub field_value_kind : (out : PinsOut) (field : Field) → kind_of (field_value out field) ≡ field_kind field
field_value_kind out (Bit k) = refl
field_value_kind out Int = refl
field_value_kind out Time = refl

-- the stores of a box whose names are in order are of the declared kinds
box_right : (ds : List Declaration) (between : List Slot) (b : DrawnBox) → AreSlotsOf ds between → IsNamedBox ds b
    → (pins : List DrawnPin) → ((pin : DrawnPin) → Contains pins pin → Contains b.pins pin) → AllByRecursion (IsRight ds) (flat_map (λ pin. side_stores ds between b pin pin.side) pins)
box_right ds between b fits named [] within = tt
box_right ds between b fits named (pin ∷ pins) within =
    both ds (side_stores ds between b pin pin.side) (flat_map (λ p. side_stores ds between b p p.side) pins)
    (side pin.side refl)
    (box_right ds between b fits named pins (λ p in'. within p (cons_later pin pins p in')))
  where
    value : (field : Field) → pin_of b.block pin.name ≡ Some (output field) → (out : PinsOut) × (value_at ds between b.instance pin.name ≡ Some (field_value out field))
    value field named' =
        let at = declared_place ds b.instance (Instance b.block) named.instance in
        let block = block_at ds between at.0 b.block fits (record { entry = at.1; at = at.3; is = at.4 }) in (
          block.0.outputs,
          ap (option_and_then (λ k. option_and_then (λ s. slot_value s pin.name) (slice_get between k))) at.2 ∙ ap (option_and_then (λ s. slot_value s pin.name)) block.1
              ∙ pin_value block.0 b.block pin.name field block.2 named',
        )

    side : (s : Side) → pin.side ≡ s → AllByRecursion (IsRight ds) (side_stores ds between b pin s)
    side Left is = tt
    side Right is = operand pin.operand refl
      where
        operand : (o : Option Operand) → pin.operand ≡ o → AllByRecursion (IsRight ds) (option_map_or (λ w. store (place_of ds w.text) (value_at ds between b.instance pin.name)) o [])
        operand None e = tt
        operand (Some o) e =
            let in' = within pin (cons_first pin pins) in
            let out = named.outputs pin in' is in
            let v = value out.0 out.1 in
            rw v.1 (store_right ds o.text (field_kind out.0) (field_value v.0 out.0) (named.stored pin o out.0 in' is e out.1) (field_value_kind v.0 out.0))

results_right : (ds : List Declaration) (between : List Slot) → AreSlotsOf ds between → (es : List Element) → ((b : DrawnBox) → Contains es (Box b) → IsNamedBox ds b)
    → AllByRecursion (IsRight ds) (flat_map (result_stores ds between) es)
results_right ds between fits [] named = tt
results_right ds between fits (e ∷ es) named =
    both ds (result_stores ds between e) (flat_map (result_stores ds between) es) (one e refl) (results_right ds between fits es (λ b in'. named b (cons_later e es (Box b) in')))
  where
    one : (x : Element) → x ≡ e → AllByRecursion (IsRight ds) (result_stores ds between x)
    one (Wire at) is = tt
    one (Join at) is = tt
    one (Upright at) is = tt
    one (Contact c) is = tt
    one (Coil c) is = tt
    one (Box b) is = box_right ds between b fits (named b (subst (λ x. Contains (e ∷ es) x) (sym is) (cons_first e es))) b.pins (λ pin in'. in')

-- a network leaves the slots of the kinds that are declared
pub meaning_keeps : (ds : List Declaration) (d : Diagram) (dt : ℕ) (old new : Moment) → AreNamed ds d.elements → NetworkMeaning ds d dt old new
    → AreSlotsOf ds old.slots → AreSlotsOf ds new.slots
unfolding stores
meaning_keeps ds d dt old new named m h =
    let between = between_keeps ds d dt old m.between m.blocks h in
    let right = both ds (flat_map (result_stores ds m.between) d.elements) (flat_map (λ e. coil_stores ds old m.links e.0 e.1) (enumerate_from 0 d.elements))
    (results_right ds m.between between d.elements named.boxes) (coils_right ds old m.links 0 d.elements named.coils) in
    subst (AreSlotsOf ds) (sym m.slots) (stored_keeps ds m.between _ right between)

pub scan_keeps : (ds : List Declaration) (dt : ℕ) (networks : List Diagram) (slots slots' : List Slot) (ms ms' : List Bool) → AllByRecursion (λ (d : Diagram). AreNamed ds d.elements) networks
    → ScanMeaning ds dt networks slots ms slots' ms' → AreSlotsOf ds slots → AreSlotsOf ds slots'
scan_keeps ds dt [] slots slots' ms ms' named m h = subst (AreSlotsOf ds) (sym m.0) h
scan_keeps ds dt (d ∷ networks) slots slots' ms ms' named m h =
    let n = length d.elements in
    scan_keeps ds dt networks m.0 slots' (drop n ms) (drop n ms') named.1 m.2
    (meaning_keeps ds d dt (moment slots (take n ms)) (moment m.0 (take n ms')) named.0 m.1 h)

-- a scan leaves a state that fits
pub fits_after : (l : LadderValue) (old new : StateValue) (dt : ℕ) → AllByRecursion (λ (d : Diagram). AreNamed l.declarations d.elements) l.networks → Fits l old
    → ScanMeaning l.declarations dt l.networks old.slots old.memories new.slots new.memories
    → length new.memories ≡ length old.memories → new.waiting_links ≡ old.waiting_links → new.waiting_results ≡ old.waiting_results → Fits l new
fits_after l old new dt named fits meaning memories links results = record {
  slots = scan_keeps l.declarations dt l.networks old.slots new.slots old.memories new.memories named meaning fits.slots;
  memories = memories ∙ fits.memories;
  waiting_links = links ∙ fits.waiting_links;
  waiting_results = results ∙ fits.waiting_results;
}

pub sum_diagrams : (rails : List Place) (circuits : List Circuit) → sum_by (λ (d : Diagram). length d.elements) (map (circuit_diagram rails) circuits) ≡ sum_by (λ (c : Circuit). length c.elements.items) circuits
sum_diagrams rails [] = refl
sum_diagrams rails (c ∷ circuits) =
    sum_by-cons (λ (d : Diagram). length d.elements) (circuit_diagram rails c) (map (circuit_diagram rails) circuits) ∙ ap (λ n. length c.elements.items + n) (sum_diagrams rails circuits)
    ∙ sym (sum_by-cons (λ (c : Circuit). length c.elements.items) c circuits)

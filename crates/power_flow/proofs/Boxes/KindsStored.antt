-- What a scan stores is of the kind that stands there: so each store is made.
use Rattle.std.proofs.Common.{◌≡◌, ◌≢◌, ℕ, suc, ◌+◌, ◌<◌, ◌⊎◌, inl, inr, List, [], ◌∷◌, ◌++◌, Bool, Option, Some, None, All, Contains, length, length-set, slice_get, set, get_or, drop, drop-cons, add-one, refl, sym, ap, ◌∙◌, subst, arith}
use Rattle.std.specs.Option.{option_and_then}
use Rattle.std.specs.List.{AllByRecursion, AllZip}
use Rattle.std.proofs.lemmas.Bool.{cases_eq}
use Rattle.std.proofs.lemmas.List.Elements.{All-head, All-tail}
use Rattle.std.proofs.lemmas.Option.{get_or_from_slice_get, slice_get_within}
use Rattle.lists.proofs.Places.{some_same, element_at, slice_get-set_same, slice_get-set_other, set_none}
use Rattle.lists.proofs.Members.{all_from_places, cons_first, cons_later}
use Rattle.lists.proofs.Zips.{zip_back}
use Rattle.std_blocks.specs.declared.block_type.BlockType.{BlockType}
use Rattle.std_blocks.specs.declared.value.Value.{Value}
use Rattle.std_blocks.specs.declared.value.Value.TheVariants as value
use Rattle.std_blocks.specs.declared.pins.PinsOut.{PinsOut}
use Rattle.std_blocks.specs.Pins.{pin_of, field_value}
use Rattle.drawings.specs.Symbols.{Coil as DrawnCoil}
use Rattle.drawings.specs.declared.drawn_box.DrawnBox.{DrawnBox}
use Rattle.drawings.specs.declared.drawn_box.DrawnPin.{DrawnPin}
use Rattle.drawings.specs.declared.drawn_box.Operand.{Operand}
use Rattle.network.specs.declared.element.Element.{Element}
use Rattle.network.specs.declared.element.Element.TheVariants.{Wire, Join, Upright, Contact, Coil, Box}
use Rattle.network.specs.Links.{Diagram}
use Rattle.declared_names.specs.declared.declarations.Declaration.{Declaration}
use Rattle.declared_names.specs.declared.declarations.Declared.{Declared}
use Rattle.declared_names.specs.declared.declarations.Declared.TheVariants.{Input, Output, Local, Instance as instance_of}
use Rattle.declared_names.specs.declared.declarations.Kind.TheVariants as kind
use Rattle.declared_names.specs.Kinds.{kind_of}
use Rattle.declared_names.specs.Names.{place_of}
use Rattle.name_faults.specs.PinKinds.{field_kind}
use Rattle.name_faults.specs.Steps.Named.{IsNamedBox, IsDeclaredVariable, AreNamed}
use Rattle.scan_steps.specs.declared.slot.Instance.{Instance}
use Rattle.scan_steps.specs.declared.slot.Slot.{Slot}
use Rattle.scan_steps.specs.declared.slot.Slot.TheVariants.{Variable, Block}
use Rattle.scan_steps.specs.declared.step.BoundCoil.{BoundCoil}
use Rattle.scan_steps.specs.declared.bound_box.BoundBox.{BoundBox}
use Rattle.scan_steps.specs.declared.bound_box.BoundOutput.{BoundOutput}
use Rattle.scan_steps.specs.Conducting.{bit_at}
use Rattle.scan_steps.specs.Slots.{IsSlotOf, AreSlotsOf}
use Rattle.scan_steps.specs.Steps.Storing.{of_same_kind, with_value, value_put, with_block, block_put}
use Rattle.power_flow.specs.Meaning.{store, stored, coil_value}
use Rattle.power_flow.specs.Steps.BoxStores.{pin_store, pin_stores, output_stores, with_blocks, kinds_stored, boxes_stored, AreBlocksKept}
use Rattle.power_flow.specs.Steps.BoxTable.{IsBlockAt, IsBoundOutput, IsBoundBox, right_pins, boxes_of}
use Rattle.power_flow.specs.Steps.CoilStores.{bound_store, bound_memory, bound_stores}
use Rattle.power_flow.specs.Steps.Circuit.{bound_coils}
use Rattle.power_flow.proofs.Ladders.Stepping.{stored-append}
use Rattle.power_flow.proofs.Boxes.BoxesBinding.{declared_place}
use Rattle.power_flow.proofs.Boxes.BoxesSources.{box_in, right_pin_in}
use Rattle.power_flow.proofs.Boxes.BoxesMeaning.{coils_from, coils_same}
use Rattle.power_flow.proofs.Boxes.BlocksStored.{IsElsewhere, IsBeside, AreBeside, beside_rest, pins_beside, blocks_before}
use Rattle.power_flow.proofs.Boxes.KeptSlots.{IsRight, both, store_right, coil_right, field_value_kind}

pub kinds_stored-append : (slots : List Slot) (xs ys : List (ℕ × Value)) → kinds_stored slots (xs ++ ys) ≡ kinds_stored (kinds_stored slots xs) ys
kinds_stored-append slots [] ys = refl
kinds_stored-append slots (x ∷ xs) ys = kinds_stored-append (value_put slots x.0 x.1) xs ys

-- one more box
pub one_box_stored : (boxes : List BoundBox) (results : List Instance) (slots : List Slot) (k : ℕ) (here : BoundBox) (v : Instance)
    → k < length boxes → k < length results → slice_get boxes k ≡ Some here → slice_get results k ≡ Some v
    → boxes_stored (drop (k + 1) boxes) (drop (k + 1) results) (kinds_stored (block_put slots here.instance v) (pin_stores v.outputs here.outputs.items))
    ≡ boxes_stored (drop k boxes) (drop k results) slots
one_box_stored boxes results slots k here v lt less box result =
    let front : drop k boxes ≡ here ∷ drop (k + 1) boxes = rw add-one
    (drop-cons boxes k here lt ∙ ap (λ e. e ∷ drop (suc k) boxes) (get_or_from_slice_get boxes k here here box)) in
    let first : drop k results ≡ v ∷ drop (k + 1) results = rw add-one
    (drop-cons results k v less ∙ ap (λ e. e ∷ drop (suc k) results) (get_or_from_slice_get results k v v result)) in
    rw (front, first) refl

-- a variable of the declared kind, or some block where a block is declared
abbrev pub IsSort : Declared → Slot → Type 0
IsSort (Input k) (Variable v) = kind_of v ≡ k
IsSort (Output k) (Variable v) = kind_of v ≡ k
IsSort (Local k) (Variable v) = kind_of v ≡ k
IsSort (instance_of b) (Variable v) = ⊥
IsSort (Input k) (Block i) = ⊥
IsSort (Output k) (Block i) = ⊥
IsSort (Local k) (Block i) = ⊥
IsSort (instance_of b) (Block i) = Unit {0}

pub record HaveSorts (ds : List Declaration) (slots : List Slot) : Type 0 where
  pub long : length slots ≡ length ds
  pub each : (k : ℕ) (e : Declaration) (s : Slot) → slice_get ds k ≡ Some e → slice_get slots k ≡ Some s → IsSort e.declared s

sort_of : (w : Declared) (s : Slot) → IsSlotOf w s → IsSort w s
sort_of (Input k) (Variable v) is = is
sort_of (Output k) (Variable v) is = is
sort_of (Local k) (Variable v) is = is
sort_of (instance_of b) (Variable v) is = is
sort_of (Input k) (Block i) is = is
sort_of (Output k) (Block i) is = is
sort_of (Local k) (Block i) is = is
sort_of (instance_of b) (Block i) is = tt

pub sorts_of : (ds : List Declaration) (slots : List Slot) → AreSlotsOf ds slots → HaveSorts ds slots
sorts_of ds slots are = record { long = are.long; each = λ k e s at at'. sort_of e.declared s (are.each k e s at at') }

sorts_set : (ds : List Declaration) (slots : List Slot) (place : ℕ) (x : Slot) → ((e : Declaration) → slice_get ds place ≡ Some e → IsSort e.declared x) → HaveSorts ds slots → HaveSorts ds (set slots place x)
sorts_set ds slots place x right h = record {
  long = length-set slots place x ∙ h.long;
  each = λ k e s at at'. by k e s at at' (cases_eq k place);
}
  where
    by : (k : ℕ) (e : Declaration) (s : Slot) → slice_get ds k ≡ Some e → slice_get (set slots place x) k ≡ Some s → (k ≡ place) ⊎ (k ≢ place) → IsSort e.declared s
    by k e s at at' (inl same) =
        let inside : place < length slots = let within = slice_get_within (set slots place x) k s at' in let long = length-set slots place x in omega arith in
        let is : x ≡ s = some_same (sym (slice_get-set_same slots place x inside) ∙ ap (slice_get (set slots place x)) (sym same) ∙ at') in
        subst (IsSort e.declared) is (right e (ap (slice_get ds) (sym same) ∙ at))
    by k e s at at' (inr apart) = h.each k e s at (sym (slice_get-set_other slots place k x apart) ∙ at')

of_kind : (u v : Value) → kind_of u ≡ kind_of v → of_same_kind u v ≡ v
of_kind (value.Bool a) (value.Bool b) same = refl
of_kind (value.Bool a) (value.Int b) same = absurd cc
of_kind (value.Bool a) (value.Time b) same = absurd cc
of_kind (value.Int a) (value.Bool b) same = absurd cc
of_kind (value.Int a) (value.Int b) same = refl
of_kind (value.Int a) (value.Time b) same = absurd cc
of_kind (value.Time a) (value.Bool b) same = absurd cc
of_kind (value.Time a) (value.Int b) same = absurd cc
of_kind (value.Time a) (value.Time b) same = refl

value_there : (w : Declared) (s : Slot) (v : Value) → IsSort w s → IsSlotOf w (Variable v) → with_value s v ≡ Variable v
value_there (Input k) (Variable u) v is right = ap Variable (of_kind u v (is ∙ sym right))
value_there (Output k) (Variable u) v is right = ap Variable (of_kind u v (is ∙ sym right))
value_there (Local k) (Variable u) v is right = ap Variable (of_kind u v (is ∙ sym right))
value_there (instance_of b) s v is right = absurd right
value_there (Input k) (Block i) v is right = absurd is
value_there (Output k) (Block i) v is right = absurd is
value_there (Local k) (Block i) v is right = absurd is

block_there : (w : Declared) (b : BlockType) (s : Slot) (i : Instance) → w ≡ instance_of b → IsSort w s → with_block s i ≡ Block i
block_there (instance_of c) b (Block had) i declared is = refl
block_there (instance_of c) b (Variable v) i declared is = absurd is
block_there (Input k) b s i declared is = absurd cc
block_there (Output k) b s i declared is = absurd cc
block_there (Local k) b s i declared is = absurd cc

-- what is put is what stands there then
put_there : (ds : List Declaration) (slots : List Slot) (k : ℕ) (x : Slot) (make : Slot → Slot) → HaveSorts ds slots
    → ((e : Declaration) (s : Slot) → slice_get ds k ≡ Some e → IsSort e.declared s → make s ≡ x)
    → set slots k (make (get_or slots k x)) ≡ set slots k x
put_there ds slots k x make sorts right = by (slice_get slots k) refl
  where
    by : (o : Option Slot) → slice_get slots k ≡ o → set slots k (make (get_or slots k x)) ≡ set slots k x
    by None none = set_none slots k (make (get_or slots k x)) none ∙ sym (set_none slots k x none)
    by (Some s) some =
        let lt = slice_get_within slots k s some in
        let long = sorts.long in
        let e = element_at ds k (omega arith) in
        ap (λ w. set slots k (make w)) (get_or_from_slice_get slots k s x some)
        ∙ ap (set slots k) (right e.0 s e.1 (sorts.each k e.0 s e.1 some))

-- stores of the declared kinds are made
pub stored_same : (ds : List Declaration) (slots : List Slot) (ss : List (ℕ × Value)) → HaveSorts ds slots → AllByRecursion (IsRight ds) ss
    → (kinds_stored slots ss ≡ stored slots ss) × HaveSorts ds (stored slots ss)
stored_same ds slots [] sorts right = (refl, sorts)
stored_same ds slots (s ∷ ss) sorts right =
    let here : value_put slots s.0 s.1 ≡ set slots s.0 (Variable s.1) =
    put_there ds slots s.0 (Variable s.1) (λ w. with_value w s.1) sorts (λ e w at is. value_there e.declared w s.1 is (right.0 e at)) in
    let rest = stored_same ds (set slots s.0 (Variable s.1)) ss
    (sorts_set ds slots s.0 (Variable s.1) (λ e at. sort_of e.declared (Variable s.1) (right.0 e at)) sorts) right.1 in
    (ap (λ l. kinds_stored l ss) here ∙ rest.0, rest.1)

-- a block is declared where the box has its instance, and its outputs are stored at variables of their kinds
pub record IsRightBox (ds : List Declaration) (e : BoundBox) : Type 0 where
  pub block : BlockType
  pub declared : IsBlockAt ds e.instance block
  pub outputs : (values : PinsOut) → AllByRecursion (IsRight ds) (pin_stores values e.outputs.items)

block_sort : (ds : List Declaration) (k : ℕ) (block : BlockType) (i : Instance) → IsBlockAt ds k block → (e : Declaration) → slice_get ds k ≡ Some e → IsSort e.declared (Block i)
block_sort ds k block i is e at =
    let same : is.entry ≡ e = some_same (sym is.at ∙ at) in
    let declared : e.declared ≡ instance_of block = ap (λ (x : Declaration). x.declared) (sym same) ∙ is.is in
    let P : Declared → Type 0 = λ w. IsSort w (Block i) in
    subst P (sym declared) tt

kept_later : (e : BoundBox) (boxes : List BoundBox) → AreBlocksKept (e ∷ boxes) → AreBlocksKept boxes
kept_later e boxes kept = λ j d lt n o in'. λ k stores. All-tail (IsElsewhere k) e boxes (All-tail (λ (f : BoundBox). All (IsBeside (e ∷ boxes)) f.outputs.items) e boxes kept j d lt n o in' k stores)

-- so boxes are stored as in two walks: the blocks first, and then their outputs
pub boxes_same : (ds : List Declaration) (boxes : List BoundBox) (results : List Instance) (slots : List Slot) → HaveSorts ds slots → All (IsRightBox ds) boxes → AreBlocksKept boxes
    → (boxes_stored boxes results slots ≡ stored (with_blocks boxes results slots) (output_stores boxes results)) × HaveSorts ds (stored (with_blocks boxes results slots) (output_stores boxes results))
boxes_same ds [] results slots sorts right kept = (refl, sorts)
boxes_same ds (e ∷ boxes) [] slots sorts right kept = (refl, sorts)
boxes_same ds (e ∷ boxes) (i ∷ results) slots sorts right kept =
    let own : IsRightBox ds e = All-head (IsRightBox ds) e boxes right in
    let stores = pin_stores i.outputs e.outputs.items in
    let put = set slots e.instance (Block i) in
    let here : block_put slots e.instance i ≡ put =
    put_there ds slots e.instance (Block i) (λ w. with_block w i) sorts (λ x w at is. block_there x.declared own.block w i
    (ap (λ (y : Declaration). y.declared) (some_same (sym at ∙ own.declared.at)) ∙ own.declared.is) is) in
    let sorts' = sorts_set ds slots e.instance (Block i) (block_sort ds e.instance own.block i own.declared) sorts in
    let made = stored_same ds put stores sorts' (own.outputs i.outputs) in
    let rest = boxes_same ds boxes results (stored put stores) made.1 (All-tail (IsRightBox ds) e boxes right) (kept_later e boxes kept) in
    let beside : AreBeside boxes stores = beside_rest e boxes stores (pins_beside (e ∷ boxes) i.outputs e.outputs.items
    (All-head (λ (f : BoundBox). All (IsBeside (e ∷ boxes)) f.outputs.items) e boxes kept)) in
    let later = output_stores boxes results in
    let two : stored (with_blocks boxes results (stored put stores)) later ≡ stored (with_blocks boxes results put) (stores ++ later) =
    ap (λ l. stored l later) (blocks_before boxes results put stores beside)
    ∙ sym (stored-append (with_blocks boxes results put) stores later) in (
      ap (λ l. boxes_stored boxes results (kinds_stored l stores)) here ∙ ap (boxes_stored boxes results) made.0 ∙ rest.0 ∙ two,
      subst (HaveSorts ds) two rest.1,
    )

-- the stores of the coils are of the declared kind
coils_right_from : (ds : List Declaration) (es : List Element) (n i : ℕ) (links memories : List Bool) → ((c : DrawnCoil) → Contains es (Coil c) → IsDeclaredVariable ds c.name kind.Bool)
    → AllByRecursion (IsRight ds) (bound_stores (coils_from ds n es) i links memories)
coils_right_from ds [] n i links memories named = tt
coils_right_from ds (Wire p ∷ es) n i links memories named = coils_right_from ds es (n + 1) i links memories (λ c in'. named c (cons_later (Wire p) es (Coil c) in'))
coils_right_from ds (Join p ∷ es) n i links memories named = coils_right_from ds es (n + 1) i links memories (λ c in'. named c (cons_later (Join p) es (Coil c) in'))
coils_right_from ds (Upright p ∷ es) n i links memories named = coils_right_from ds es (n + 1) i links memories (λ c in'. named c (cons_later (Upright p) es (Coil c) in'))
coils_right_from ds (Contact p ∷ es) n i links memories named = coils_right_from ds es (n + 1) i links memories (λ c in'. named c (cons_later (Contact p) es (Coil c) in'))
coils_right_from ds (Box p ∷ es) n i links memories named = coils_right_from ds es (n + 1) i links memories (λ c in'. named c (cons_later (Box p) es (Coil c) in'))
coils_right_from ds (Coil x ∷ es) n i links memories named =
    let bound : BoundCoil = record { kind = x.kind; place = place_of ds x.name; memory = n } in
    let later = bound_memory bound (bit_at links i) memories in
    both ds (bound_store bound (bit_at links i) memories) (bound_stores (coils_from ds (n + 1) es) (i + 1) links later)
    (coil_right ds x.name (coil_value x.kind (bit_at links i) (bit_at memories n)) (named x (cons_first (Coil x) es)))
    (coils_right_from ds es (n + 1) (i + 1) links later (λ c in'. named c (cons_later (Coil x) es (Coil c) in')))

pub coils_right : (ds : List Declaration) (d : Diagram) (coils : List BoundCoil) (links memories : List Bool) → AreNamed ds d.elements → coils ≡ bound_coils ds d.elements
    → AllByRecursion (IsRight ds) (bound_stores coils 0 links memories)
coils_right ds d coils links memories named is =
    let P : List BoundCoil → Type 0 = λ w. AllByRecursion (IsRight ds) (bound_stores w 0 links memories) in
    subst P (sym (is ∙ coils_same ds d.elements)) (coils_right_from ds d.elements 0 0 links memories named.coils)

-- the outputs of bound boxes are stored at variables of their kinds
one_pin : (values : PinsOut) (o : BoundOutput) (w : Option ℕ) → pin_store values o w ≡ store w (Some (field_value values o.field))
one_pin values o None = refl
one_pin values o (Some k) = refl

pins_right : (ds : List Declaration) (values : PinsOut) (pins : List BoundOutput) → All (λ o. AllByRecursion (IsRight ds) (store o.store (Some (field_value values o.field)))) pins → AllByRecursion (IsRight ds) (pin_stores values pins)
pins_right ds values [] each = tt
pins_right ds values (o ∷ pins) each =
    let P : BoundOutput → Type 0 = λ x. AllByRecursion (IsRight ds) (store x.store (Some (field_value values x.field))) in
    both ds (pin_store values o o.store) (pin_stores values pins)
    (subst (AllByRecursion (IsRight ds)) (sym (one_pin values o o.store)) (All-head P o pins each)) (pins_right ds values pins (All-tail P o pins each))

pub boxes_right : (ds : List Declaration) (d : Diagram) (top : ℕ) (boxes : List BoundBox) → AllZip (IsBoundBox ds top) (boxes_of d.elements) boxes → AreNamed ds d.elements → All (IsRightBox ds) boxes
boxes_right ds d top boxes bound named = all_from_places (IsRightBox ds) boxes each
  where
    each : (j : ℕ) (e : BoundBox) → slice_get boxes j ≡ Some e → IsRightBox ds e
    each j e at = record { block = e.block; declared = is.declared; outputs = outputs }
      where
        back : (b : DrawnBox) × (slice_get (boxes_of d.elements) j ≡ Some b) × IsBoundBox ds top b e
        back = zip_back (IsBoundBox ds top) (boxes_of d.elements) boxes bound j e at

        is : IsBoundBox ds top back.0 e
        is = back.2

        own : IsNamedBox ds back.0
        own = named.boxes back.0 (box_in d.elements j back.0 back.1)

        same_block : e.block ≡ back.0.block
        same_block =
            let found = declared_place ds back.0.instance (instance_of back.0.block) own.instance in
            let here : found.0 ≡ e.instance = some_same (sym found.2 ∙ is.place) in
            let entry : found.1 ≡ is.declared.entry = some_same (sym found.3 ∙ ap (slice_get ds) here ∙ is.declared.at) in
            let declared : instance_of e.block ≡ instance_of back.0.block = sym is.declared.is ∙ ap (λ (x : Declaration). x.declared) (sym entry) ∙ found.4 in
            cc

        outputs : (values : PinsOut) → AllByRecursion (IsRight ds) (pin_stores values e.outputs.items)
        outputs values = pins_right ds values e.outputs.items (all_from_places (λ o. AllByRecursion (IsRight ds) (store o.store (Some (field_value values o.field)))) e.outputs.items one)
          where
            one : (n : ℕ) (o : BoundOutput) → slice_get e.outputs.items n ≡ Some o → AllByRecursion (IsRight ds) (store o.store (Some (field_value values o.field)))
            one n o there = subst (λ w. AllByRecursion (IsRight ds) (store w (Some (field_value values o.field)))) (sym pin.2.store) (operand pin.0.operand refl)
              where
                pin : (p : DrawnPin) × (slice_get (right_pins back.0.pins) n ≡ Some p) × IsBoundOutput ds top e.block p o
                pin = zip_back (IsBoundOutput ds top e.block) (right_pins back.0.pins) e.outputs.items is.outputs n o there

                operand : (w : Option Operand) → pin.0.operand ≡ w → AllByRecursion (IsRight ds) (store (option_and_then (λ (x : Operand). place_of ds x.text) w) (Some (field_value values o.field)))
                operand None none = tt
                operand (Some w) some =
                    let right = right_pin_in back.0.pins n pin.0 pin.1 in
                    store_right ds w.text (field_kind o.field) (field_value values o.field)
                    (own.stored pin.0 w o.field right.0 right.1 some (ap (λ t. pin_of t pin.0.name) (sym same_block) ∙ pin.2.named)) (field_value_kind values o.field)

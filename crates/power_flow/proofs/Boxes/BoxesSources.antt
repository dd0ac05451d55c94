-- Where the inputs and outputs of boxes come from.
use Rattle.std.proofs.Common.{◌≡◌, ℕ, zero, suc, ◌<◌, ◌≤◌, inl, inr, List, [], ◌∷◌, Bool, true, false, Option, Some, None, Contains, length, slice_get, arith, refl, sym, ap, ◌∙◌, subst}
use Rattle.std.specs.List.{AllZip, cons_option, before_first, after_first}
use Rattle.std.specs.Option.{option_and_then, option_map_or}
use Rattle.std.proofs.lemmas.Bool.{cases_lt}
use Rattle.std.proofs.lemmas.Option.{slice_get_within, slice_get_past}
use Rattle.lists.proofs.Members.{cons_later}
use Rattle.lists.proofs.Zips.{zip_back}
use Rattle.lists.proofs.Places.{element_at, some_same}
use Rattle.drawings.specs.declared.place.Place.{Place}
use Rattle.drawings.specs.declared.drawn_box.DrawnBox.{DrawnBox}
use Rattle.drawings.specs.declared.drawn_box.DrawnPin.{DrawnPin}
use Rattle.drawings.specs.declared.drawn_box.Side.{Side}
use Rattle.drawings.specs.declared.drawn_box.Side.TheVariants.{Left, Right}
use Rattle.network.specs.declared.element.Element.{Element}
use Rattle.network.specs.declared.element.Element.TheVariants.{Wire, Join, Upright, Contact, Coil, Box}
use Rattle.network.specs.Links.{Diagram}
use Rattle.std_blocks.specs.declared.block_type.BlockType.{BlockType}
use Rattle.std_blocks.specs.declared.block_type.BlockType.TheVariants.{SR, RS, CTU, CTD, CTUD, TP, TON, TOF}
use Rattle.std_blocks.specs.declared.block_state.BlockState.{BlockState}
use Rattle.std_blocks.specs.declared.pins.PinsIn.{PinsIn}
use Rattle.std_blocks.specs.declared.pin.Field.{Field}
use Rattle.std_blocks.specs.declared.pin.Pin.{Pin}
use Rattle.std_blocks.specs.declared.value.Value.{Value}
use Rattle.drawings.specs.declared.drawn_box.Operand.{Operand}
use Rattle.std_blocks.specs.Pins.{pin_of, output, field_value}
use Rattle.std_blocks.specs.Blocks.{state_after, after}
use Rattle.declared_names.specs.declared.declarations.Declaration.{Declaration}
use Rattle.declared_names.specs.declared.declarations.Declared.{Declared}
use Rattle.declared_names.specs.declared.declarations.Declared.TheVariants as declared
use Rattle.scan_steps.specs.declared.slot.Instance.{Instance}
use Rattle.scan_steps.specs.declared.slot.Slot.{Slot}
use Rattle.scan_steps.specs.declared.slot.Slot.TheVariants.{Variable, Block}
use Rattle.scan_steps.specs.declared.source.Source.{Source}
use Rattle.scan_steps.specs.declared.source.Source.TheVariants as source
use Rattle.scan_steps.specs.declared.bound_box.BoundBox.{BoundBox}
use Rattle.declared_names.specs.Names.{place_of, is_dot}
use Rattle.power_flow.specs.Values.{value_of, slot_value, shown_at}
use Rattle.scan_steps.specs.Values.{is_true}
use Rattle.name_faults.specs.Literals.{literal_value}
use Rattle.power_flow.specs.Values.{text_value, value_or}
use Rattle.scan_steps.specs.Steps.Sources.{source_value, source_bit, slot_output}
use Rattle.power_flow.specs.Steps.NameSources.{output_source, declared_source, name_source, operand_source, pin_source}
use Rattle.scan_steps.specs.Slots.{variable_of}
use Rattle.scan_steps.specs.Slots.{IsSlotOf, AreSlotsOf}
use Rattle.power_flow.specs.Steps.BoxTable.{IsBlockAt, IsBoundBox, right_pin, right_pins, boxes_of}

-- the boxes are the elements that are boxes
pub box_in : (es : List Element) (j : ℕ) (b : DrawnBox) → slice_get (boxes_of es) j ≡ Some b → Contains es (Box b)
box_in [] j b at = cc
box_in (Wire p ∷ es) j b at = cons_later (Wire p) es (Box b) (box_in es j b at)
box_in (Join p ∷ es) j b at = cons_later (Join p) es (Box b) (box_in es j b at)
box_in (Upright p ∷ es) j b at = cons_later (Upright p) es (Box b) (box_in es j b at)
box_in (Contact p ∷ es) j b at = cons_later (Contact p) es (Box b) (box_in es j b at)
box_in (Coil p ∷ es) j b at = cons_later (Coil p) es (Box b) (box_in es j b at)
box_in (Box a ∷ es) zero b at = (zero, (let long : length (Box a ∷ es) ≡ suc (length es) = refl in omega arith), ap Box (some_same at))
box_in (Box a ∷ es) (suc j) b at = cons_later (Box a) es (Box b) (box_in es j b at)

pub box_at : (es : List Element) (b : DrawnBox) (k : ℕ) → slice_get es k ≡ Some (Box b) → (j : ℕ) × (slice_get (boxes_of es) j ≡ Some b)
box_at [] b k at = cc
box_at (Box a ∷ es) b zero at = (zero, cc)
box_at (Wire p ∷ es) b zero at = cc
box_at (Join p ∷ es) b zero at = cc
box_at (Upright p ∷ es) b zero at = cc
box_at (Contact p ∷ es) b zero at = cc
box_at (Coil p ∷ es) b zero at = cc
box_at (Box a ∷ es) b (suc k) at = let h = box_at es b k at in (suc h.0, h.1)
box_at (Wire p ∷ es) b (suc k) at = box_at es b k at
box_at (Join p ∷ es) b (suc k) at = box_at es b k at
box_at (Upright p ∷ es) b (suc k) at = box_at es b k at
box_at (Contact p ∷ es) b (suc k) at = box_at es b k at
box_at (Coil p ∷ es) b (suc k) at = box_at es b k at

-- the right pins are the pins of the right side
pub right_pin_in : (pins : List DrawnPin) (m : ℕ) (pin : DrawnPin) → slice_get (right_pins pins) m ≡ Some pin → Contains pins pin × (pin.side ≡ Right)
right_pin_in [] m pin at = cc
right_pin_in (p ∷ pins) m pin at = go (λ n at'. let h = right_pin_in pins n pin at' in (cons_later p pins pin h.0, h.1)) p.side refl m at
  where
    go : ((n : ℕ) → slice_get (right_pins pins) n ≡ Some pin → Contains (p ∷ pins) pin × (pin.side ≡ Right)) → (s : Side) → p.side ≡ s → (n : ℕ) → slice_get (cons_option (right_pin p s) (right_pins pins)) n ≡ Some pin → Contains (p ∷ pins) pin × (pin.side ≡ Right)
    go later Left e n at' = later n at'
    go later Right e zero at' =
        let is : p ≡ pin = some_same at' in
        ((zero, (let long : length (p ∷ pins) ≡ suc (length pins) = refl in omega arith), is), sym (ap (λ (q : DrawnPin). q.side) is) ∙ e)
    go later Right e (suc n) at' = later n at'

pub right_pin_at : (pins : List DrawnPin) (pin : DrawnPin) (k : ℕ) → slice_get pins k ≡ Some pin → pin.side ≡ Right → (m : ℕ) × (slice_get (right_pins pins) m ≡ Some pin)
right_pin_at [] pin k at side = cc
right_pin_at (p ∷ pins) pin zero at side =
    let is : p ≡ pin = some_same at in
    let right : p.side ≡ Right = ap (λ (q : DrawnPin). q.side) is ∙ side in
    let P : Side → Type 0 = λ s. slice_get (cons_option (right_pin p s) (right_pins pins)) 0 ≡ Some pin in
    (0, subst P (sym right) at)
right_pin_at (p ∷ pins) pin (suc k) at side = go p.side (right_pin_at pins pin k at side)
  where
    go : (s : Side) → (m : ℕ) × (slice_get (right_pins pins) m ≡ Some pin) → (m : ℕ) × (slice_get (cons_option (right_pin p s) (right_pins pins)) m ≡ Some pin)
    go Left h = h
    go Right h = (suc h.0, h.1)

-- a place is its row and column
pub place_is : (p : Place) (row column : ℕ) → p.row ≡ row → p.column ≡ column → p ≡ (record { row = row; column = column })
place_is p row column r c =
    let at : ℕ → ℕ → Place = λ y x. record { row = y; column = x } in
    ap (λ y. at y p.column) r ∙ ap (λ x. at row x) c

-- a block has no pin without a name
no_pin : (block : BlockType) (field : Field) → pin_of block [] ≡ Some (output field) → ⊥
unfolding pin_of
no_pin SR field e = cc
no_pin RS field e = cc
no_pin CTU field e = cc
no_pin CTD field e = cc
no_pin CTUD field e = cc
no_pin TP field e = cc
no_pin TON field e = cc
no_pin TOF field e = cc

-- the output of a block at a pin of its type
pub pin_value : (i : Instance) (block : BlockType) (name : List ℕ) (field : Field) → i.state.block ≡ block → pin_of block name ≡ Some (output field) → slot_value (Block i) name ≡ Some (field_value i.outputs field)
pin_value i block [] field is at = absurd (no_pin block field at)
pin_value i block (c ∷ name) field is at =
    ap (λ b. option_and_then (shown_at i.outputs) (pin_of b (c ∷ name))) is ∙ ap (option_and_then (shown_at i.outputs)) at

some_none : {X : Type 0} {x : X} → Some x ≡ None → ⊥
some_none e = cc

-- what stands at the place of a block
pub block_at : (ds : List Declaration) (slots : List Slot) (k : ℕ) (block : BlockType) → AreSlotsOf ds slots → IsBlockAt ds k block → (i : Instance) × (slice_get slots k ≡ Some (Block i)) × (i.state.block ≡ block)
block_at ds slots k block fits is =
    let within = slice_get_within ds k is.entry is.at in
    let long = fits.long in
    let s = element_at slots k (omega arith) in
    go s.0 s.1
  where
    go : (s : Slot) → slice_get slots k ≡ Some s → (i : Instance) × (slice_get slots k ≡ Some (Block i)) × (i.state.block ≡ block)
    go (Variable v) at =
        let P : Declared → Type 0 = λ w. IsSlotOf w (Variable v) in
        absurd (subst P is.is (fits.each k is.entry (Variable v) is.at at))
    go (Block i) at =
        let P : Declared → Type 0 = λ w. IsSlotOf w (Block i) in
        (i, at, subst P is.is (fits.each k is.entry (Block i) is.at at))

-- what is declared at a place has the value of its source
declared_value : (slots : List Slot) (k : ℕ) (w : Declared) (s : Slot) (pin : List ℕ) → slice_get slots k ≡ Some s → IsSlotOf w s → slot_value s pin ≡ source_value slots (declared_source w k pin)
declared_value slots k (declared.Input kind) (Variable v) [] at is = sym (ap (option_and_then variable_of) at)
declared_value slots k (declared.Input kind) (Variable v) (c ∷ pin) at is = refl
declared_value slots k (declared.Input kind) (Block i) pin at is = absurd is
declared_value slots k (declared.Output kind) (Variable v) [] at is = sym (ap (option_and_then variable_of) at)
declared_value slots k (declared.Output kind) (Variable v) (c ∷ pin) at is = refl
declared_value slots k (declared.Output kind) (Block i) pin at is = absurd is
declared_value slots k (declared.Local kind) (Variable v) [] at is = sym (ap (option_and_then variable_of) at)
declared_value slots k (declared.Local kind) (Variable v) (c ∷ pin) at is = refl
declared_value slots k (declared.Local kind) (Block i) pin at is = absurd is
declared_value slots k (declared.Instance b) (Variable v) pin at is = absurd is
declared_value slots k (declared.Instance b) (Block i) [] at is = refl
declared_value slots k (declared.Instance b) (Block i) (c ∷ pin) at is =
    ap (λ t. option_and_then (shown_at i.outputs) (pin_of t (c ∷ pin))) is ∙ go (pin_of b (c ∷ pin))
  where
    side : (left : Bool) (field : Field) → shown_at i.outputs (record { left = left; field = field }) ≡ source_value slots (output_source k (record { left = left; field = field }))
    side true field = refl
    side false field = sym (ap (option_and_then (slot_output field)) at)

    go : (o : Option Pin) → option_and_then (shown_at i.outputs) o ≡ source_value slots (option_map_or (output_source k) o source.Nothing)
    go None = refl
    go (Some found) = side found.left found.field

-- a name's value is that of its source
pub name_value : (ds : List Declaration) (slots : List Slot) (name : List ℕ) → AreSlotsOf ds slots → value_of ds slots name ≡ source_value slots (name_source ds name)
unfolding value_of name_source
name_value ds slots name fits = go (place_of ds (before_first is_dot name))
  where
    at : (k : ℕ) (e : Option Declaration) → slice_get ds k ≡ e → option_and_then (λ s. slot_value s (after_first is_dot name)) (slice_get slots k)
        ≡ source_value slots (option_map_or (λ (e : Declaration). declared_source e.declared k (after_first is_dot name)) e source.Nothing)
    at k None is =
        let past : length slots ≤ k = elim (cases_lt k (length ds)) [ inl lt ↦ absurd (some_none (sym (element_at ds k lt).1 ∙ is)) | inr le ↦ (let long = fits.long in omega arith) ] in
        ap (option_and_then (λ s. slot_value s (after_first is_dot name))) (slice_get_past slots k past)
    at k (Some e) is =
        let within = slice_get_within ds k e is in
        let long = fits.long in
        let s = element_at slots k (omega arith) in
        ap (option_and_then (λ s. slot_value s (after_first is_dot name))) s.1 ∙ declared_value slots k e.declared s.0 (after_first is_dot name) s.1 (fits.each k e s.0 is s.1)

    go : (o : Option ℕ) → option_and_then (λ k. option_and_then (λ s. slot_value s (after_first is_dot name)) (slice_get slots k)) o
        ≡ source_value slots (option_map_or (λ k. option_map_or (λ (e : Declaration). declared_source e.declared k (after_first is_dot name)) (slice_get ds k) source.Nothing) o source.Nothing)
    go None = refl
    go (Some k) = at k (slice_get ds k) refl

-- a source that is no place of the network
abbrev IsRead : Source → Type 0
IsRead source.Nothing = Unit {0}
IsRead (source.Power k) = ⊥
IsRead (source.Variable k) = Unit {0}
IsRead (source.Output k field) = Unit {0}
IsRead (source.Literal v) = Unit {0}

read_bit : (slots : List Slot) (bits : List Bool) (s : Source) → IsRead s → source_bit slots bits s ≡ is_true (source_value slots s)
read_bit slots bits source.Nothing is = refl
read_bit slots bits (source.Power k) is = absurd is
read_bit slots bits (source.Variable k) is = refl
read_bit slots bits (source.Output k field) is = refl
read_bit slots bits (source.Literal v) is = refl

declared_read : (w : Declared) (k : ℕ) (pin : List ℕ) → IsRead (declared_source w k pin)
declared_read (declared.Input kind) k [] = tt
declared_read (declared.Input kind) k (c ∷ pin) = tt
declared_read (declared.Output kind) k [] = tt
declared_read (declared.Output kind) k (c ∷ pin) = tt
declared_read (declared.Local kind) k [] = tt
declared_read (declared.Local kind) k (c ∷ pin) = tt
declared_read (declared.Instance b) k [] = tt
declared_read (declared.Instance b) k (c ∷ pin) = go (pin_of b (c ∷ pin))
  where
    side : (left : Bool) (field : Field) → IsRead (output_source k (record { left = left; field = field }))
    side true field = tt
    side false field = tt

    go : (o : Option Pin) → IsRead (option_map_or (output_source k) o source.Nothing)
    go None = tt
    go (Some found) = side found.left found.field

name_read : (ds : List Declaration) (name : List ℕ) → IsRead (name_source ds name)
unfolding name_source
name_read ds name = go (place_of ds (before_first is_dot name))
  where
    at : (k : ℕ) (e : Option Declaration) → IsRead (option_map_or (λ (e : Declaration). declared_source e.declared k (after_first is_dot name)) e source.Nothing)
    at k None = tt
    at k (Some e) = declared_read e.declared k (after_first is_dot name)

    go : (o : Option ℕ) → IsRead (option_map_or (λ k. option_map_or (λ (e : Declaration). declared_source e.declared k (after_first is_dot name)) (slice_get ds k) source.Nothing) o source.Nothing)
    go None = tt
    go (Some k) = at k (slice_get ds k)

-- a name is no place of the network
pub name_no_power : (ds : List Declaration) (name : List ℕ) (n : ℕ) → name_source ds name ≡ source.Power n → ⊥
name_no_power ds name n is = let P : Source → Type 0 = λ s. IsRead s in subst P is (name_read ds name)

pub name_bit : (ds : List Declaration) (slots : List Slot) (bits : List Bool) (name : List ℕ) → AreSlotsOf ds slots → source_bit slots bits (name_source ds name) ≡ is_true (value_of ds slots name)
name_bit ds slots bits name fits = read_bit slots bits (name_source ds name) (name_read ds name) ∙ ap is_true (sym (name_value ds slots name fits))

-- an operand's value is that of its source
pub operand_value_is : (ds : List Declaration) (slots : List Slot) (text : List ℕ) → AreSlotsOf ds slots → text_value ds slots text ≡ source_value slots (operand_source ds text)
unfolding text_value operand_source
operand_value_is ds slots text fits = go (literal_value text)
  where
    go : (o : Option Value) → value_or o (value_of ds slots text) ≡ source_value slots (option_map_or source.Literal o (name_source ds text))
    go None = name_value ds slots text fits
    go (Some v) = refl

pub pin_source_value : (ds : List Declaration) (slots : List Slot) (pin : DrawnPin) → AreSlotsOf ds slots → source_value slots (pin_source ds pin) ≡ option_and_then (λ o. text_value ds slots o.text) pin.operand
pin_source_value ds slots pin fits = go pin.operand
  where
    go : (o : Option Operand) → source_value slots (option_map_or (λ w. operand_source ds w.text) o source.Nothing) ≡ option_and_then (λ w. text_value ds slots w.text) o
    go None = refl
    go (Some w) = sym (operand_value_is ds slots w.text fits)

-- a step keeps the type of its block
type_kept : (b : BlockType) (s : BlockState) (pins : PinsIn) (dt : ℕ) → (state_after b s pins dt).block ≡ s.block
type_kept SR s pins dt = refl
type_kept RS s pins dt = refl
type_kept CTU s pins dt = refl
type_kept CTD s pins dt = refl
type_kept CTUD s pins dt = refl
type_kept TP s pins dt = refl
type_kept TON s pins dt = refl
type_kept TOF s pins dt = refl

pub block_kept : (s : BlockState) (pins : PinsIn) (dt : ℕ) → (after s pins dt).block ≡ s.block
block_kept s pins dt = type_kept s.block s pins dt

-- each bound box has a slot
pub room : (ds : List Declaration) (d : Diagram) (top : ℕ) (boxes : List BoundBox) → AllZip (IsBoundBox ds top) (boxes_of d.elements) boxes
    → (slots : List Slot) → length slots ≡ length ds → (j : ℕ) (e : BoundBox) → slice_get boxes j ≡ Some e → e.instance < length slots
room ds d top boxes bound slots long j e at =
    let is = (zip_back (IsBoundBox ds top) (boxes_of d.elements) boxes bound j e at).2 in
    let lt = slice_get_within ds e.instance is.declared.entry is.declared.at in
    omega arith

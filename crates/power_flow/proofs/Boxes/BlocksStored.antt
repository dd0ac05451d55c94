-- Blocks are put back and outputs stored in one walk, since no output is stored where a block stands.
use Rattle.std.proofs.Common.{◌≡◌, ◌≢◌, ℕ, zero, suc, ◌<◌, List, [], ◌∷◌, ◌++◌, Option, Some, None, All, length, length-set, slice_get, set, refl, sym, ap, ◌∙◌, subst, arith}
use Rattle.std.specs.Option.{option_and_then}
use Rattle.std.specs.List.{AllByRecursion, AllZip}
use Rattle.std.proofs.lemmas.List.Elements.{All-head, All-tail}
use Rattle.lists.proofs.Places.{slice_get-set_same, slice_get-set_other, some_same}
use Rattle.lists.proofs.Members.{all_from_places}
use Rattle.lists.proofs.Zips.{zip_back}
use Rattle.std_blocks.specs.declared.value.Value.{Value}
use Rattle.std_blocks.specs.declared.pins.PinsOut.{PinsOut}
use Rattle.drawings.specs.declared.drawn_box.Operand.{Operand}
use Rattle.network.specs.Links.{Diagram}
use Rattle.declared_names.specs.declared.declarations.Declaration.{Declaration}
use Rattle.declared_names.specs.declared.declarations.Declared.{Declared}
use Rattle.declared_names.specs.declared.declarations.Declared.TheVariants.{Instance as instance_of}
use Rattle.declared_names.specs.declared.declarations.Kind.{Kind}
use Rattle.declared_names.specs.Names.{place_of}
use Rattle.name_faults.specs.PinKinds.{field_kind}
use Rattle.name_faults.specs.BindFaults.{IsVariable}
use Rattle.name_faults.specs.Steps.Named.{IsDeclaredVariable, AreNamed}
use Rattle.scan_steps.specs.declared.slot.Instance.{Instance}
use Rattle.scan_steps.specs.declared.slot.Slot.{Slot}
use Rattle.scan_steps.specs.declared.slot.Slot.TheVariants.{Variable, Block}
use Rattle.scan_steps.specs.declared.bound_box.BoundBox.{BoundBox}
use Rattle.scan_steps.specs.declared.bound_box.BoundOutput.{BoundOutput}
use Rattle.power_flow.specs.Meaning.{stored}
use Rattle.power_flow.specs.Steps.BoxStores.{AreApartBoxes, pin_store, pin_stores, with_blocks, HasNoBox, AreBlocksKept}
use Rattle.power_flow.specs.Steps.BoxTable.{IsBoundOutput, IsBoundBox, right_pins, boxes_of}
use Rattle.power_flow.proofs.Boxes.BoxesBinding.{declared_place}
use Rattle.power_flow.proofs.Boxes.BoxesSources.{box_in, right_pin_in}

-- changes at two places may come in either order
set_apart : {X : Type 0} (xs : List X) (i j : ℕ) (a b : X) → (i ≡ j → ⊥) → set (set xs i a) j b ≡ set (set xs j b) i a
set_apart [] i j a b ne = refl
set_apart (x ∷ xs) zero zero a b ne = absurd (ne refl)
set_apart (x ∷ xs) zero (suc j) a b ne = refl
set_apart (x ∷ xs) (suc i) zero a b ne = refl
set_apart (x ∷ xs) (suc i) (suc j) a b ne = ap (λ l. x ∷ l) (set_apart xs i j a b (λ e. ne (ap suc e)))

abbrev pub IsElsewhere : ℕ → BoundBox → Type 0
IsElsewhere k f = f.instance ≢ k

-- the output is stored at no box
abbrev pub IsBeside : List BoundBox → BoundOutput → Type 0
IsBeside boxes o = (k : ℕ) → o.store ≡ Some k → HasNoBox boxes k

-- the stores are at no box
abbrev pub AreBeside : List BoundBox → List (ℕ × Value) → Type 0
AreBeside boxes ss = AllByRecursion (λ (s : ℕ × Value). HasNoBox boxes s.0) ss

-- a block may be put back before stores at other places
put_before : (slots : List Slot) (ss : List (ℕ × Value)) (k : ℕ) (i : Instance)
    → AllByRecursion (λ (s : ℕ × Value). k ≢ s.0) ss
    → set (stored slots ss) k (Block i) ≡ stored (set slots k (Block i)) ss
put_before slots [] k i apart = refl
put_before slots (s ∷ ss) k i apart =
    put_before (set slots s.0 (Variable s.1)) ss k i apart.1
    ∙ ap (λ l. stored l ss) (set_apart slots s.0 k (Variable s.1) (Block i) (λ e. apart.0 (sym e)))

beside_first : (e : BoundBox) (boxes : List BoundBox) (ss : List (ℕ × Value)) → AreBeside (e ∷ boxes) ss
    → AllByRecursion (λ (s : ℕ × Value). e.instance ≢ s.0) ss
beside_first e boxes [] beside = tt
beside_first e boxes (s ∷ ss) beside = (All-head (IsElsewhere s.0) e boxes beside.0, beside_first e boxes ss beside.1)

pub beside_rest : (e : BoundBox) (boxes : List BoundBox) (ss : List (ℕ × Value)) → AreBeside (e ∷ boxes) ss
    → AreBeside boxes ss
beside_rest e boxes [] beside = tt
beside_rest e boxes (s ∷ ss) beside = (All-tail (IsElsewhere s.0) e boxes beside.0, beside_rest e boxes ss beside.1)

beside_both : (boxes : List BoundBox) (xs ys : List (ℕ × Value)) → AreBeside boxes xs → AreBeside boxes ys
    → AreBeside boxes (xs ++ ys)
beside_both boxes [] ys first second = second
beside_both boxes (x ∷ xs) ys first second = (first.0, beside_both boxes xs ys first.1 second)

-- so may all blocks
pub blocks_before : (boxes : List BoundBox) (results : List Instance) (slots : List Slot) (ss : List (ℕ × Value))
    → AreBeside boxes ss
    → with_blocks boxes results (stored slots ss) ≡ stored (with_blocks boxes results slots) ss
blocks_before [] results slots ss beside = refl
blocks_before (e ∷ boxes) [] slots ss beside = refl
blocks_before (e ∷ boxes) (i ∷ results) slots ss beside =
    ap (with_blocks boxes results) (put_before slots ss e.instance i (beside_first e boxes ss beside))
    ∙ blocks_before boxes results (set slots e.instance (Block i)) ss (beside_rest e boxes ss beside)

-- the stores of pins whose operands are no boxes
pub pins_beside : (boxes : List BoundBox) (values : PinsOut) (pins : List BoundOutput) → All (IsBeside boxes) pins
    → AreBeside boxes (pin_stores values pins)
pins_beside boxes values [] kept = tt
pins_beside boxes values (o ∷ pins) kept =
    beside_both boxes (pin_store values o o.store) (pin_stores values pins) (one o.store refl)
    (pins_beside boxes values pins (All-tail (IsBeside boxes) o pins kept))
  where
    one : (w : Option ℕ) → o.store ≡ w → AreBeside boxes (pin_store values o w)
    one None is = tt
    one (Some k) is = (All-head (IsBeside boxes) o pins kept k is, tt)

-- what stands in the slots once the blocks are put back
pub blocks_length : (boxes : List BoundBox) (results : List Instance) (slots : List Slot)
    → length (with_blocks boxes results slots) ≡ length slots
blocks_length [] results slots = refl
blocks_length (e ∷ boxes) [] slots = refl
blocks_length (e ∷ boxes) (i ∷ results) slots = blocks_length boxes results (set slots e.instance (Block i))
    ∙ length-set slots e.instance (Block i)

pub blocks_others : (boxes : List BoundBox) (results : List Instance) (slots : List Slot) (k : ℕ) → HasNoBox boxes k
    → slice_get (with_blocks boxes results slots) k ≡ slice_get slots k
blocks_others [] results slots k none = refl
blocks_others (e ∷ boxes) [] slots k none = refl
blocks_others (e ∷ boxes) (i ∷ results) slots k none =
    blocks_others boxes results (set slots e.instance (Block i)) k (All-tail (IsElsewhere k) e boxes none)
    ∙ slice_get-set_other slots e.instance k (Block i) (λ same. All-head (IsElsewhere k) e boxes none (sym same))

pub blocks_placed : (boxes : List BoundBox) (results : List Instance) (slots : List Slot) → AreApartBoxes boxes
    → (j : ℕ) (e : BoundBox) (i : Instance) → slice_get boxes j ≡ Some e → slice_get results j ≡ Some i
    → e.instance < length slots
    → slice_get (with_blocks boxes results slots) e.instance ≡ Some (Block i)
blocks_placed [] results slots apart j e i at has lt = absurd cc
blocks_placed (b ∷ boxes) [] slots apart j e i at has lt = absurd cc
blocks_placed (b ∷ boxes) (r ∷ results) slots apart zero e i at has lt =
    let same : b ≡ e = some_same at in
    let was : r ≡ i = some_same has in
    let P : BoundBox → Type 0 = λ x. x.instance < length slots in
    let inside : b.instance < length slots = subst P (sym same) lt in
    let none : HasNoBox boxes b.instance = all_from_places (IsElsewhere b.instance) boxes
    (λ k f there equal. let never : zero ≡ suc k = apart zero (suc k) b f refl there (sym equal) in absurd
    (omega (arith, never))) in
    ap (λ (x : BoundBox). slice_get (with_blocks boxes results (set slots b.instance (Block r))) x.instance) (sym same)
    ∙ blocks_others boxes results (set slots b.instance (Block r)) b.instance none
    ∙ slice_get-set_same slots b.instance (Block r) inside ∙ ap (λ (x : Instance). Some (Block x)) was
blocks_placed (b ∷ boxes) (r ∷ results) slots apart (suc j) e i at has lt =
    let long = length-set slots b.instance (Block r) in
    blocks_placed boxes results (set slots b.instance (Block r))
    (λ m n x y here there same. let one : suc m ≡ suc n = apart (suc m) (suc n) x y here there same in omega
    (arith, one)) j e i at has (omega arith)

-- outputs of boxes whose names are in order are stored at variables
pub stored_apart : (ds : List Declaration) (d : Diagram) (top : ℕ) (boxes : List BoundBox)
    → AllZip (IsBoundBox ds top) (boxes_of d.elements) boxes → AreNamed ds d.elements → AreBlocksKept boxes
stored_apart ds d top boxes bound named = all_from_places
    (λ (e : BoundBox). All (IsBeside boxes) e.outputs.items) boxes each
  where
    at_variable : (k : ℕ) (kind : Kind) (text : List ℕ) → IsDeclaredVariable ds text kind → place_of ds text ≡ Some k
        → HasNoBox boxes k
    at_variable k kind text (w, declared, variable) place = all_from_places (IsElsewhere k) boxes (λ m f there same.
        let block = (zip_back (IsBoundBox ds top) (boxes_of d.elements) boxes bound m f there).2.declared in
        let found = declared_place ds text w declared in
        let here : found.0 ≡ k = some_same (sym found.2 ∙ place) in
        let entry : found.1 ≡ block.entry = some_same (sym found.3 ∙ ap (slice_get ds) (here ∙ sym same) ∙ block.at) in
        let is : w ≡ instance_of f.block = sym found.4 ∙ ap (λ (x : Declaration). x.declared) entry ∙ block.is in
        let P : Declared → Type 0 = λ x. IsVariable x kind in
        subst P is variable)

    at_operand : (k : ℕ) (kind : Kind) (o : Option Operand) → ((w : Operand) → o ≡ Some w → IsDeclaredVariable ds w.text kind)
        → option_and_then (λ (w : Operand). place_of ds w.text) o ≡ Some k → HasNoBox boxes k
    at_operand k kind None stores place = absurd cc
    at_operand k kind (Some w) stores place = at_variable k kind w.text (stores w refl) place

    each : (j : ℕ) (e : BoundBox) → slice_get boxes j ≡ Some e → All (IsBeside boxes) e.outputs.items
    each j e at =
        let back = zip_back (IsBoundBox ds top) (boxes_of d.elements) boxes bound j e at in
        let b = back.0 in
        let own = named.boxes b (box_in d.elements j b back.1) in
        all_from_places (IsBeside boxes) e.outputs.items (λ n o there k stores.
        let pin = zip_back (IsBoundOutput ds top e.block)
        (right_pins b.pins) e.outputs.items back.2.outputs n o there in
        let right = right_pin_in b.pins n pin.0 pin.1 in
        let out = own.outputs pin.0 right.0 right.1 in
        at_operand k (field_kind out.0) pin.0.operand (λ w is. own.stored pin.0 w out.0 right.0 right.1 is out.1)
        (sym pin.2.store ∙ stores))

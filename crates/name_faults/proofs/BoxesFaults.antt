-- The first fault of a box, of its name and its pins.
use Rattle.std.proofs.Common.{zero, suc, not, ◌&&◌, ◌||◌, eqb, take, get_or, length, ◌++◌, append_assoc, add-one, All, ◌≡◌, ℕ, ◌+◌, ◌<◌, inl, inr, List, [], ◌∷◌, Bool, true, false, Option, Some, None, cond, Contains, slice_get, arith, refl, sym, ap, ◌∙◌, subst}
use Rattle.std.proofs.lemmas.Bool.{cases_lt}
use Rattle.std_blocks.specs.declared.value.Value.{Value}
use Rattle.std_blocks.specs.declared.block_type.BlockType.{BlockType}
use Rattle.std_blocks.specs.declared.block_type.BlockType.TheVariants.{SR, RS, CTU, CTD, CTUD, TP, TON, TOF}
use Rattle.std_blocks.specs.declared.pin.Field.{Field}
use Rattle.std_blocks.specs.declared.pin.Field.TheVariants.{Bit, Int, Time}
use Rattle.std.specs.List.{list_any}
use Rattle.std.proofs.lemmas.Bool.{false≢true}
use Rattle.std.proofs.lemmas.Bool.Decides.{Decides-eqb}
use Rattle.network.specs.declared.element.Element.{Element}
use Rattle.name_faults.proofs.FirstFindings.{parts, first_more}
use Rattle.name_faults.specs.Steps.ElementFindings.{IsFirstFinding}
use Rattle.name_faults.specs.Steps.Earlier.{IsEarlierFinding}
use Rattle.name_faults.specs.declared.finding.Finding.{Finding}
use Rattle.std.proofs.lemmas.List.{append-nil}
use Rattle.std_blocks.specs.declared.pin.Pin.{Pin}
use Rattle.std_blocks.specs.Pins.{pin_of, output}
use Rattle.drawings.specs.declared.place.Place.{Place}
use Rattle.drawings.specs.declared.drawn_box.DrawnBox.{DrawnBox}
use Rattle.drawings.specs.declared.drawn_box.DrawnPin.{DrawnPin}
use Rattle.drawings.specs.declared.drawn_box.Operand.{Operand}
use Rattle.drawings.specs.declared.drawn_box.Side.{Side}
use Rattle.drawings.specs.declared.drawn_box.Side.TheVariants.{Left, Right}
use Rattle.name_faults.specs.declared.bind_fault.BindKind.{BindKind}
use Rattle.name_faults.specs.declared.bind_fault.BindKind.TheVariants.{WrongKind, LiteralOutOfRange}
use Rattle.declared_names.specs.declared.declarations.Declaration.{Declaration}
use Rattle.declared_names.specs.declared.declarations.Declared.{Declared}
use Rattle.declared_names.specs.declared.declarations.Declared.TheVariants as declared
use Rattle.declared_names.specs.declared.declarations.Kind.{Kind}
use Rattle.name_faults.specs.PinKinds.{field_kind}
use Rattle.declared_names.specs.Kinds.{kind_of}
use Rattle.name_faults.specs.Literals.{literal_value}
use Rattle.name_faults.specs.Lookup.{declared_at, is_dotted}
use Rattle.name_faults.specs.Steps.BoxFindings.{IsFaultlessBox, fault_here, instance_fault, type_number, pin_fault, same_field, same_pin, is_among, operand_finding, pin_findings, pins_findings, corner_findings, box_findings, own_field, field_on, kind_at, operand_fault, read_fault_at, read_fault_by, store_fault_at, store_fault_by, literal_fault, in_range, same_kind, name_kind, store_name_fault}
use Rattle.name_faults.specs.Steps.Named.{IsNamedBox, IsDeclaredVariable, AreStored}
use Rattle.name_faults.proofs.NameFaults.{stored_variable}
use Rattle.declared_names.specs.Names.{is_dot}
use Rattle.std.specs.List.{before_first}
use Rattle.lists.proofs.Places.{some_same}
use Rattle.lists.proofs.Members.{at_contains}

-- types of one number are one
pub same_number : (a b : BlockType) → eqb (type_number a) (type_number b) ≡ true → a ≡ b
same_number SR SR e = refl
same_number RS RS e = refl
same_number CTU CTU e = refl
same_number CTD CTD e = refl
same_number CTUD CTUD e = refl
same_number TP TP e = refl
same_number TON TON e = refl
same_number TOF TOF e = refl
same_number a b e = cc

none_some : {X : Type 0} {x : X} → None ≡ Some x → ⊥
none_some e = cc

-- no fault at a place is no fault
pub here_none : (o : Option BindKind) (p : Place) → fault_here o p ≡ None → o ≡ None
here_none None p e = refl
here_none (Some kind) p e = absurd (cc)

instance_is : (t : BlockType) (o : Option Declared) → instance_fault t o ≡ None → o ≡ Some (declared.Instance t)
instance_is t None e = absurd (cc)
instance_is t (Some (declared.Input k)) e = absurd (cc)
instance_is t (Some (declared.Output k)) e = absurd (cc)
instance_is t (Some (declared.Local k)) e = absurd (cc)
instance_is t (Some (declared.Instance b)) e = go (eqb (type_number b) (type_number t)) refl e
  where
    go : (x : Bool) → eqb (type_number b) (type_number t) ≡ x → ◌≡◌ {A = Option BindKind} (cond x None (Some WrongKind)) None → Some (declared.Instance b) ≡ Some (declared.Instance t)
    go true same e' = ap (λ w. Some (declared.Instance w)) (same_number b t same)
    go false same e' = absurd (cc)

pin_fault_none : (f : Option Field) (twice : Bool) → pin_fault f twice ≡ None → ((field : Field) × (f ≡ Some field)) × (twice ≡ false)
pin_fault_none None twice e = absurd (cc)
pin_fault_none (Some f) true e = absurd (cc)
pin_fault_none (Some f) false e = ((f, refl), refl)

pub eqb_same : (k : ℕ) → eqb k k ≡ true
eqb_same k = (Decides-eqb k k).1 refl

same_field_refl : (f : Field) → same_field f f ≡ true
same_field_refl (Bit k) = eqb_same k
same_field_refl Int = refl
same_field_refl Time = refl

pub same_pin_refl : (p : Pin) → same_pin (Some p) (Some p) ≡ true
same_pin_refl p = go p.left (same_field_refl p.field)
  where
    go : (x : Bool) → same_field p.field p.field ≡ true → (cond x x (not x) && same_field p.field p.field) ≡ true
    go true e = e
    go false e = e

pub any_false : {X : Type 0} (f : X → Bool) (xs : List X) (j : ℕ) (x : X) → list_any f xs ≡ false → slice_get xs j ≡ Some x → f x ≡ false
any_false f [] j x h at = cc
any_false f (y ∷ xs) zero x h at = ap f (sym (some_same at)) ∙ first_false (f y) (list_any f xs) h
  where
    first_false : (a b : Bool) → (a || b) ≡ false → a ≡ false
    first_false true b e = e
    first_false false b e = refl
any_false f (y ∷ xs) (suc j) x h at = any_false f xs j x (rest_false (f y) (list_any f xs) h) at
  where
    rest_false : (a b : Bool) → (a || b) ≡ false → b ≡ false
    rest_false true b e = cc
    rest_false false b e = e

pub slice_get-take : {X : Type 0} (xs : List X) (k j : ℕ) → j < k → slice_get (take k xs) j ≡ slice_get xs j
slice_get-take xs zero j lt = absurd (omega arith)
slice_get-take [] (suc k) j lt = refl
slice_get-take (x ∷ xs) (suc k) zero lt = refl
slice_get-take (x ∷ xs) (suc k) (suc j) lt = slice_get-take xs k j (omega arith)

-- no fault of the pins is no fault of each
pin_faultless : (ds : List Declaration) (es : List Element) (b : DrawnBox) (pins : List DrawnPin) (n k : ℕ) (pin : DrawnPin) → All (λ o. o ≡ None) (pins_findings ds es b n pins) → slice_get pins k ≡ Some pin
    → All (λ o. o ≡ None) (pin_findings ds es b (n + k) pin)
pin_faultless ds es b [] n k pin h at = absurd (cc)
pin_faultless ds es b (p ∷ pins) n zero pin h at =
    let here : n + 0 ≡ n = omega arith in
    let P : DrawnPin → Type 0 = λ q. All (λ o. o ≡ None) (pin_findings ds es b n q) in
    rw here (subst P (some_same at) (parts (pin_findings ds es b n p) (pins_findings ds es b (n + 1) pins) h).0)
pin_faultless ds es b (p ∷ pins) n (suc k) pin h at =
    let along : n + suc k ≡ n + 1 + k = omega arith in
    rw along (pin_faultless ds es b pins (n + 1) k pin (parts (pin_findings ds es b n p) (pins_findings ds es b (n + 1) pins) h).1 at)

-- what the three faults of a pin say where there is none
record PinRight (ds : List Declaration) (b : DrawnBox) (k : ℕ) (pin : DrawnPin) : Type 0 where
  known : (field : Field) × (own_field b pin ≡ Some field)
  once : is_among b.block (take k b.pins) pin.name ≡ false
  operand : operand_finding ds b pin pin.operand ≡ None

pin_right : (ds : List Declaration) (es : List Element) (b : DrawnBox) (k : ℕ) (pin : DrawnPin) → All (λ o. o ≡ None) (pin_findings ds es b k pin) → PinRight ds b k pin
unfolding pin_findings
pin_right ds es b k pin h =
    let side = here_none _ _ (h 0 None (omega arith)) in
    let f = pin_fault_none (own_field b pin) (is_among b.block (take k b.pins) pin.name) side in
    record { known = f.0; once = f.1; operand = h 1 None (omega arith) }

-- a box without faults has the names that its table needs
pub named_box : (ds : List Declaration) (es : List Element) (b : DrawnBox) → IsFaultlessBox ds es b → IsNamedBox ds b
unfolding box_findings corner_findings is_among read_fault_at store_fault_at
named_box ds es b fine = record {
  instance = instance_is b.block (declared_at ds b.instance) (here_none _ _ (corners.0 0 None (omega arith)));
  once = once;
  outputs = λ pin in' right'. output_of pin (pin_of b.block pin.name) refl right' (right pin in').known;
  literals = λ pin o in' has v lit. literals pin o v in' has lit;
  stored = stored;
}
  where
    corners : All (λ o. o ≡ None) (corner_findings ds b) × All (λ o. o ≡ None) (pins_findings ds es b 0 b.pins)
    corners = parts (corner_findings ds b) (pins_findings ds es b 0 b.pins) fine

    at_pin : (k : ℕ) (pin : DrawnPin) → slice_get b.pins k ≡ Some pin → PinRight ds b k pin
    at_pin k pin at = let same : 0 + k ≡ k = omega arith in let P : ℕ → Type 0 = λ n. All (λ o. o ≡ None) (pin_findings ds es b n pin) in
        pin_right ds es b k pin (subst P same (pin_faultless ds es b b.pins 0 k pin (parts (corner_findings ds b) (pins_findings ds es b 0 b.pins) fine).1 at))

    early : (i j : ℕ) (p q : DrawnPin) (pin : Pin) → i < j → slice_get b.pins i ≡ Some p → slice_get b.pins j ≡ Some q
        → pin_of b.block p.name ≡ Some pin → pin_of b.block q.name ≡ Some pin → ⊥
    early i j p q pin lt at at' is is' =
        let fine' = pin_right ds es b j q (let same : 0 + j ≡ j = omega arith in let P : ℕ → Type 0 = λ n. All (λ o. o ≡ None) (pin_findings ds es b n q) in
        subst P same (pin_faultless ds es b b.pins 0 j q (parts (corner_findings ds b) (pins_findings ds es b 0 b.pins) fine).1 at')) in
        let no = any_false (λ (w : DrawnPin). same_pin (pin_of b.block w.name) (pin_of b.block q.name)) (take j b.pins) i p fine'.once (slice_get-take b.pins j i lt ∙ at) in
        let yes = ap (λ o. same_pin o (pin_of b.block q.name)) is ∙ ap (λ o. same_pin (Some pin) o) is' ∙ same_pin_refl pin in
        false≢true (sym no ∙ yes)

    once : (i j : ℕ) (p q : DrawnPin) (pin : Pin) → slice_get b.pins i ≡ Some p → slice_get b.pins j ≡ Some q
        → pin_of b.block p.name ≡ Some pin → pin_of b.block q.name ≡ Some pin → i ≡ j
    once i j p q pin at at' is is' = elim (cases_lt i j) [
      | inl lt ↦ absurd (early i j p q pin lt at at' is is')
      | inr le ↦ elim (cases_lt j i) [ inl lt ↦ absurd (early j i q p pin lt at' at is' is) | inr le' ↦ omega arith ]
    ]

    right : (pin : DrawnPin) (in' : Contains b.pins pin) → PinRight ds b (at_contains b.pins pin in').0 pin
    right pin in' = at_pin (at_contains b.pins pin in').0 pin (at_contains b.pins pin in').1

    left_false : (pin : Pin) (field : Field) → field_on Right (Some pin) ≡ Some field → pin ≡ output field
    left_false pin field e = go pin.left pin.field e
      where
        go : (x : Bool) (f : Field) → field_on Right (Some (record { left = x; field = f })) ≡ Some field → ◌≡◌ {A = Pin} (record { left = x; field = f }) (output field)
        go true f e' = absurd (none_some e')
        go false f e' = ap (λ w. output w) (some_same e')

    output_of : (pin : DrawnPin) (o : Option Pin) → pin_of b.block pin.name ≡ o → pin.side ≡ Right → (field : Field) × (own_field b pin ≡ Some field)
        → (field : Field) × (pin_of b.block pin.name ≡ Some (output field))
    output_of pin None e right (field, own) =
        let none : field_on pin.side None ≡ Some field = rw e at own in
        absurd (none_some none)
    output_of pin (Some found) e right (field, own) =
        let some : field_on pin.side (Some found) ≡ Some field = rw e at own in
        let on_right : field_on Right (Some found) ≡ Some field = rw right at some in
        (field, e ∙ ap Some (left_false found field on_right))

    fits : (k : Kind) (v : Value) → literal_fault (Some k) v ≡ None → in_range v ≡ true
    fits k v = go (same_kind k (kind_of v)) (in_range v)
      where
        go : (x y : Bool) → cond x (cond y None (Some LiteralOutOfRange)) (Some WrongKind) ≡ None → y ≡ true
        go true true e = refl
        go true false e = cc
        go false y e = cc

    operand_none : (pin : DrawnPin) (w : Option Operand) (o : Operand) → operand_finding ds b pin w ≡ None → w ≡ Some o → operand_fault ds pin.side (kind_at (own_field b pin)) o.text ≡ None
    operand_none pin None o e has = absurd (none_some has)
    operand_none pin (Some w) o e has =
        let P : Operand → Type 0 = λ x. operand_fault ds pin.side (kind_at (own_field b pin)) x.text ≡ None in
        subst P (some_same has) (here_none _ _ e)

    literals : (pin : DrawnPin) (o : Operand) (v : Value) → Contains b.pins pin → pin.operand ≡ Some o → literal_value o.text ≡ Some v → in_range v ≡ true
    literals pin o v in' has lit =
        let at = at_contains b.pins pin in' in
        let r = at_pin at.0 pin at.1 in
        go (own_field b pin) pin.side (operand_none pin pin.operand o r.operand has) r.known
      where
        go : (f : Option Field) (s : Side) → operand_fault ds s (kind_at f) o.text ≡ None → (field : Field) × (f ≡ Some field) → in_range v ≡ true
        go None s e field = cc
        go (Some f) Left e field =
            let read : read_fault_by (Some (field_kind f)) (Some v) (name_kind ds o.text) ≡ None = rw lit at e in
            fits (field_kind f) v read
        go (Some f) Right e field =
            let stored : store_fault_by (Some (field_kind f)) (Some v) (store_name_fault (Some (field_kind f)) (is_dotted o.text) (declared_at ds (before_first is_dot o.text))) ≡ None = rw lit at e in
            cc

    store_at : (text : List ℕ) (k : Kind) → store_fault_at ds (Some k) text ≡ None → IsDeclaredVariable ds text k
    store_at text k e = stored_variable ds text k (name (literal_value text) e)
      where
        name : (l : Option Value) → store_fault_by (Some k) l (store_name_fault (Some k) (is_dotted text) (declared_at ds (before_first is_dot text))) ≡ None
            → store_name_fault (Some k) (is_dotted text) (declared_at ds (before_first is_dot text)) ≡ None
        name None e' = e'
        name (Some v) e' = absurd (cc)

    stored : AreStored ds b
    stored pin o field in' on_right has named =
        let at = at_contains b.pins pin in' in
        let own : own_field b pin ≡ Some field = ap (field_on pin.side) named ∙ ap (λ x. field_on x (Some (output field))) on_right in
        let fault = operand_none pin pin.operand o (at_pin at.0 pin at.1).operand has in
        let P : Option Field → Type 0 = λ f. operand_fault ds pin.side (kind_at f) o.text ≡ None in
        let Q : Side → Type 0 = λ s. operand_fault ds s (kind_at (Some field)) o.text ≡ None in
        store_at o.text (field_kind field) (subst Q on_right (subst P own fault))

-- the faults of one more pin
pins_more : (ds : List Declaration) (es : List Element) (b : DrawnBox) (pins : List DrawnPin) (n i : ℕ) (pin : DrawnPin) → i < length pins → pin ≡ get_or pins i pin
    → pins_findings ds es b n (take (suc i) pins) ≡ pins_findings ds es b n (take i pins) ++ pin_findings ds es b (n + i) pin
pins_more ds es b [] n i pin lt is = absurd (omega arith)
pins_more ds es b (p ∷ pins) n zero pin lt is =
    let here : n + 0 ≡ n = omega arith in
    rw here (append-nil (pin_findings ds es b n p) ∙ ap (λ q. pin_findings ds es b n q) (sym is))
pins_more ds es b (p ∷ pins) n (suc i) pin lt is =
    let along : n + suc i ≡ n + 1 + i = omega arith in
    let short : i < length pins = (let long : suc i < suc (length pins) = lt in omega arith) in
    rw along (ap (λ l. pin_findings ds es b n p ++ l) (pins_more ds es b pins (n + 1) i pin short is)
    ∙ sym (append_assoc (pin_findings ds es b n p) (pins_findings ds es b (n + 1) (take i pins)) (pin_findings ds es b (n + 1 + i) pin)))

pub pins_first : (ds : List Declaration) (es : List Element) (b : DrawnBox) (i : ℕ) (pin : DrawnPin) (r s t : Option Finding) → i < length b.pins → pin ≡ get_or b.pins i pin
    → IsFirstFinding (corner_findings ds b ++ pins_findings ds es b 0 (take i b.pins)) r → IsFirstFinding (pin_findings ds es b i pin) s → IsEarlierFinding r s t
    → IsFirstFinding (corner_findings ds b ++ pins_findings ds es b 0 (take (i + 1) b.pins)) t
pins_first ds es b i pin r s t lt is was here earlier =
    let along : 0 + i ≡ i = omega arith in
    let one : i + 1 ≡ suc i = add-one i in
    let more : pins_findings ds es b 0 (take (i + 1) b.pins) ≡ pins_findings ds es b 0 (take i b.pins) ++ pin_findings ds es b i pin =
    ap (λ k. pins_findings ds es b 0 (take k b.pins)) one ∙ pins_more ds es b b.pins 0 i pin lt is ∙ ap (λ k. pins_findings ds es b 0 (take i b.pins) ++ pin_findings ds es b k pin) along in
    rw more (rw (← append_assoc) (first_more (corner_findings ds b ++ pins_findings ds es b 0 (take i b.pins)) (pin_findings ds es b i pin) r s t was here earlier))

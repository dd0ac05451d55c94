-- The faults that are found are those of the definitions, each at its place.
use Rattle.std.proofs.Common.{◌≡◌, ℕ, ◌+◌, ◌<◌, zero, suc, List, [], ◌∷◌, Bool, true, false, ◌&&◌, not, eqb, ltb, Option, Some, None, All, Contains, get_or, take, slice_get, refl, sym, ap, ◌∙◌, subst, arith, if◌then◌else◌, ◌==◌, ◌-◌}
use Rattle.std.specs.Prelude.{Any, nat_lt}
use Rattle.std.specs.List.{flat_map, list_any, before_first}
use Rattle.std.proofs.lemmas.Bool.{false≢true, and_parts}
use Rattle.std.proofs.lemmas.Bool.Decides.{Decides-eqb, Decides-ltb}
use Rattle.std.proofs.lemmas.Option.{slice_get-get_or, slice_get_within, get_or_from_slice_get}
use Rattle.std.proofs.lemmas.List.Elements.{All-append, All-weaker, All-nil, All-cons, All-contains, Contains-append_left, Contains-append_right}
use Rattle.std.proofs.lemmas.List.Folds.{Any-from_list_any, list_any-from_Any}
use Rattle.lists.proofs.Places.{some_same}
use Rattle.lists.proofs.Members.{contains_at, at_contains, cons_first, any_at, any_found}
use Rattle.lists.proofs.Mapped.{in_flat}
use Rattle.std_blocks.specs.declared.value.Value.{Value}
use Rattle.std_blocks.specs.declared.pin.Field.{Field}
use Rattle.std_blocks.specs.declared.pin.Field.TheVariants.{Bit, Int, Time}
use Rattle.std_blocks.specs.declared.pin.Pin.{Pin}
use Rattle.std_blocks.specs.Pins.{pin_of}
use Rattle.drawings.specs.declared.place.Place.{Place}
use Rattle.drawings.specs.declared.drawn_box.DrawnBox.{DrawnBox}
use Rattle.drawings.specs.declared.drawn_box.DrawnPin.{DrawnPin}
use Rattle.drawings.specs.declared.drawn_box.Operand.{Operand}
use Rattle.drawings.specs.declared.drawn_box.Side.{Side}
use Rattle.drawings.specs.declared.drawn_box.Side.TheVariants.{Left, Right}
use Rattle.network.specs.declared.element.Element.{Element}
use Rattle.network.specs.declared.element.Element.TheVariants.{Wire, Join, Upright, Contact, Coil, Box}
use Rattle.network.specs.Links.{place}
use Rattle.name_faults.specs.declared.bind_fault.BindKind.{BindKind}
use Rattle.name_faults.specs.declared.bind_fault.BindKind.TheVariants.{UnknownName, WrongKind, WritesInput, UnknownPin, PinMissing, LiteralOutOfRange, Memory}
use Rattle.name_faults.specs.declared.finding.Finding.{Finding}
use Rattle.declared_names.specs.declared.declarations.Declaration.{Declaration}
use Rattle.declared_names.specs.declared.declarations.Declared.{Declared}
use Rattle.declared_names.specs.declared.declarations.Declared.TheVariants as declared
use Rattle.declared_names.specs.declared.declarations.Kind.{Kind}
use Rattle.declared_names.specs.declared.declarations.Kind.TheVariants as kind
use Rattle.declared_names.specs.Names.{is_dot}
use Rattle.name_faults.specs.PinKinds.{field_kind}
use Rattle.declared_names.specs.Kinds.{kind_of}
use Rattle.name_faults.specs.Literals.{literal_value}
use Rattle.name_faults.specs.Lookup.{declared_at, is_dotted}
use Rattle.name_faults.specs.BindFaults.{IsBox, IsOperand, Reads, Stores, IsPinAt, EndsBefore, BeginsBehind, HasLine, HasLinedPin, HasForeignPin, HasSecondPin, LacksBit, IsNamedByNone, IsNamedOtherwise, unknown_read, unknown_stored, unknown_box, wrong_read, wrong_stored, wrong_literal, literal_stored, wrong_line, wrong_box, unknown_output, foreign_pin, second_pin, IsFaultOf, IsFaultIn}
use Rattle.name_faults.specs.Binding.{IsBoundNetwork}
use Rattle.name_faults.specs.Findings.{ComesNoLater, IsFault}
use Rattle.name_faults.specs.Steps.BoxFindings.{name_kind, read_name_fault, read_fault_at, read_fault_by, store_name_fault, store_fault_at, store_fault_by, operand_fault, own_field, kind_at, corner, side_place, fault_here, fault_if, type_number, instance_fault, same_side, is_bit, has_bit, same_field, same_pin, is_among, pin_fault, operand_finding, is_beside, has_line, line_fault, pin_findings, corner_findings, pins_findings, box_findings}
use Rattle.name_faults.specs.Steps.ElementFindings.{write_fault, fault_with, variable_declared, element_findings, network_findings, findings, IsFirstFinding, IsBound, HasNoFinding}
use Rattle.name_faults.proofs.NameFaults.{ReadFault, StoreFault, LiteralFault, nothing_found, read_found, read_meant, store_found, store_meant, coil_stores, literal_found, literal_meant}
use Rattle.name_faults.proofs.FirstFindings.{none_in_networks}
use Rattle.name_faults.proofs.BoxesFaults.{same_pin_refl, any_false, slice_get-take, same_number, eqb_same}

-- a fault that stands in a list of findings, if any does
abbrev Meets : (BindKind → Place → Type 0) → Option Finding → Type 0
Meets P o = (f : Finding) → o ≡ Some f → P f.kind (place f.row f.column)

abbrev finding : BindKind → Place → Finding
finding k p = record { kind = k; row = p.row; column = p.column }

nothing_meets : (P : BindKind → Place → Type 0) → Meets P None
nothing_meets P f e = absurd (nothing_found e)

here_meets : (P : BindKind → Place → Type 0) (o : Option BindKind) (p : Place) → ((k : BindKind) → o ≡ Some k → P k p) → Meets P (fault_here o p)
here_meets P None p h = nothing_meets P
here_meets P (Some k) p h = λ f e. subst (λ (x : Finding). P x.kind (place x.row x.column)) (some_same e) (h k refl)

here_is : (o : Option BindKind) (k : BindKind) (q p : Place) → o ≡ Some k → q ≡ p → fault_here o q ≡ Some (finding k p)
here_is o k q p is at = ap (λ w. fault_here w q) is ∙ ap (λ w. Some (finding k w)) at

second_of : {X : Type 0} (x y : X) (xs : List X) → Contains (x ∷ y ∷ xs) y
second_of x y xs = (1, omega arith, refl)

third_of : {X : Type 0} (x y z : X) (xs : List X) → Contains (x ∷ y ∷ z ∷ xs) z
third_of x y z xs = (2, omega arith, refl)

all_three : {X : Type 0} (P : X → Type 0) (x y z : X) → P x → P y → P z → All P (x ∷ y ∷ z ∷ [])
all_three P x y z f g h = All-cons P x (y ∷ z ∷ []) f (All-cons P y (z ∷ []) g (All-cons P z [] h (All-nil P)))

all_one : {X : Type 0} (P : X → Type 0) (x : X) → P x → All P (x ∷ [])
all_one P x f = All-cons P x [] f (All-nil P)

each_flat : {X Y : Type 0} (F : X → List Y) (Q : Y → Type 0) (xs : List X) → ((i : ℕ) (x : X) → slice_get xs i ≡ Some x → All Q (F x)) → All Q (flat_map F xs)
each_flat F Q [] h = All-nil Q
each_flat F Q (x ∷ xs) h = All-append Q (F x) (flat_map F xs) (h 0 x refl) (each_flat F Q xs (λ i y at. h (suc i) y at))

-- one number is right below another
near : (r row c left n : ℕ) → (r == row && nat_lt c left && (left - c == n)) ≡ true → (r ≡ row) × (c + n ≡ left)
near r row c left n e = go (and_parts (eqb r row && ltb c left) (eqb (left - c) n) e)
  where
    go : ((eqb r row && ltb c left) ≡ true) × (eqb (left - c) n ≡ true) → (r ≡ row) × (c + n ≡ left)
    go (a, b) =
        let h = and_parts (eqb r row) (ltb c left) a in
        let lt = (Decides-ltb c left).0 h.1 in
        let is = (Decides-eqb (left - c) n).0 b in
        ((Decides-eqb r row).0 h.0, omega arith)

near_back : (r row c left n : ℕ) → 0 < n → r ≡ row → c + n ≡ left → (r == row && nat_lt c left && (left - c == n)) ≡ true
near_back r row c left n some same is =
    let a : eqb r row ≡ true = (Decides-eqb r row).1 same in
    let b : ltb c left ≡ true = (Decides-ltb c left).1 (omega arith) in
    let d : eqb (left - c) n ≡ true = (Decides-eqb (left - c) n).1 (omega arith) in
    rw (a, b, d) refl

-- what lies beside a box
beside_found : (b : DrawnBox) (row : ℕ) (side : Side) (elements : List Element) → list_any (is_beside b row side) elements ≡ true → HasLine elements side (side_place b row side)
beside_found b row Left elements e =
    let a = Any-from_list_any (is_beside b row Left) elements e in
    let f = any_found (λ x. is_beside b row Left x ≡ true) elements a in
    any_at (EndsBefore (place row b.left)) elements f.0 f.1 f.2 (one f.1 f.3)
  where
    one : (x : Element) → is_beside b row Left x ≡ true → EndsBefore (place row b.left) x
    one (Wire at) h = near at.row row at.column b.left 1 h
    one (Join at) h = near at.row row at.column b.left 1 h
    one (Upright at) h = absurd (false≢true h)
    one (Contact c) h = near c.row row c.column b.left 3 h
    one (Coil c) h = near c.row row c.column b.left 3 h
    one (Box a) h = absurd (false≢true h)
beside_found b row Right elements e =
    let a = Any-from_list_any (is_beside b row Right) elements e in
    let f = any_found (λ x. is_beside b row Right x ≡ true) elements a in
    any_at (BeginsBehind (place row b.right)) elements f.0 f.1 f.2 (one f.1 f.3)
  where
    behind : (r c : ℕ) → (r == row && nat_lt b.right c && (c - b.right == 1)) ≡ true → (r ≡ row) × (c ≡ b.right + 1)
    behind r c h = let n = near r row b.right c 1 h in (n.0, sym n.1)

    one : (x : Element) → is_beside b row Right x ≡ true → BeginsBehind (place row b.right) x
    one (Wire at) h = behind at.row at.column h
    one (Join at) h = behind at.row at.column h
    one (Upright at) h = absurd (false≢true h)
    one (Contact c) h = behind c.row c.column h
    one (Coil c) h = behind c.row c.column h
    one (Box a) h = absurd (false≢true h)

beside_meant : (b : DrawnBox) (row : ℕ) (side : Side) (elements : List Element) → HasLine elements side (side_place b row side) → list_any (is_beside b row side) elements ≡ true
beside_meant b row Left elements h =
    let f = any_found (EndsBefore (place row b.left)) elements h in
    list_any-from_Any (is_beside b row Left) elements (any_at (λ x. is_beside b row Left x ≡ true) elements f.0 f.1 f.2 (one f.1 f.3))
  where
    one : (x : Element) → EndsBefore (place row b.left) x → is_beside b row Left x ≡ true
    one (Wire at) e = near_back at.row row at.column b.left 1 (omega arith) e.0 e.1
    one (Join at) e = near_back at.row row at.column b.left 1 (omega arith) e.0 e.1
    one (Upright at) e = absurd e
    one (Contact c) e = near_back c.row row c.column b.left 3 (omega arith) e.0 e.1
    one (Coil c) e = near_back c.row row c.column b.left 3 (omega arith) e.0 e.1
    one (Box a) e = absurd e
beside_meant b row Right elements h =
    let f = any_found (BeginsBehind (place row b.right)) elements h in
    list_any-from_Any (is_beside b row Right) elements (any_at (λ x. is_beside b row Right x ≡ true) elements f.0 f.1 f.2 (one f.1 f.3))
  where
    one : (x : Element) → BeginsBehind (place row b.right) x → is_beside b row Right x ≡ true
    one (Wire at) e = near_back at.row row b.right at.column 1 (omega arith) e.0 (sym e.1)
    one (Join at) e = near_back at.row row b.right at.column 1 (omega arith) e.0 (sym e.1)
    one (Upright at) e = absurd e
    one (Contact c) e = near_back c.row row b.right c.column 1 (omega arith) e.0 (sym e.1)
    one (Coil c) e = near_back c.row row b.right c.column 1 (omega arith) e.0 (sym e.1)
    one (Box a) e = absurd e

-- pins that pass the test are the same pin
same_pins : (o w : Option Pin) → same_pin o w ≡ true → (p : Pin) × (o ≡ Some p) × (w ≡ Some p)
same_pins None w e = absurd (false≢true e)
same_pins (Some p) None e = absurd (false≢true e)
same_pins (Some p) (Some q) e = go p.left p.field q.left q.field e
  where
    fields : (f g : Field) → same_field f g ≡ true → f ≡ g
    fields (Bit j) (Bit k) h = ap Bit ((Decides-eqb j k).0 h)
    fields Int Int h = refl
    fields Time Time h = refl
    fields f g h = cc

    go : (l : Bool) (f : Field) (m : Bool) (g : Field) → same_pin (Some (record { left = l; field = f })) (Some (record { left = m; field = g })) ≡ true
        → (x : Pin) × (◌≡◌ {A = Option Pin} (Some (record { left = l; field = f })) (Some x)) × (◌≡◌ {A = Option Pin} (Some (record { left = m; field = g })) (Some x))
    go true f true g h = (record { left = true; field = g }, ap (λ x. Some (record { left = true; field = x })) (fields f g h), refl)
    go true f false g h = absurd (false≢true h)
    go false f true g h = absurd (false≢true h)
    go false f false g h = (record { left = false; field = g }, ap (λ x. Some (record { left = false; field = x })) (fields f g h), refl)

within_take : {X : Type 0} (xs : List X) (k j : ℕ) (x : X) → slice_get (take k xs) j ≡ Some x → (j < k) × (slice_get xs j ≡ Some x)
within_take xs zero j x e = absurd (nothing_found e)
within_take [] (suc k) j x e = absurd (nothing_found e)
within_take (y ∷ xs) (suc k) zero x e = (omega arith, e)
within_take (y ∷ xs) (suc k) (suc j) x e = let h = within_take xs k j x e in (let lt = h.0 in omega arith, h.1)

module _ (ds : List Declaration) (es : List Element) where
  -- reading and storing at a name
  read_fault : (e : Element) (p : Place) (text : List ℕ) (want : Option Kind) (k : BindKind) → Reads e p text want → ReadFault ds text want k → IsFaultOf ds es k e p
  read_fault e p text want UnknownName r h = unknown_read text want r h
  read_fault e p text want WrongKind r h = wrong_read text want r h
  read_fault e p text want UnknownPin r h = unknown_output text want r h
  read_fault e p text want k r h = absurd h

  store_fault : (e : Element) (p : Place) (text : List ℕ) (want : Option Kind) (k : BindKind) → Stores e p text want → StoreFault ds text want k → IsFaultOf ds es k e p
  store_fault e p text want UnknownName r h = unknown_stored text want r h
  store_fault e p text want WrongKind r h = wrong_stored text want r h
  store_fault e p text want WritesInput r h = (text, want, r, h)
  store_fault e p text want k r h = absurd h

  -- where a box is
  module _ (b : DrawnBox) where
    abbrev OfBox : BindKind → Place → Type 0
    OfBox k p = IsFaultOf ds es k (Box b) p

    abbrev name_finding : Option Finding
    name_finding = fault_here (instance_fault b.block (declared_at ds b.instance)) (corner b)

    abbrev bit_finding : Side → Option Finding
    bit_finding side = fault_here (fault_if (not (has_bit b side)) PinMissing) (corner b)

    abbrev side_finding : ℕ → DrawnPin → Option Finding
    side_finding n pin = fault_here (pin_fault (own_field b pin) (is_among b.block (take n b.pins) pin.name)) (side_place b pin.row pin.side)

    abbrev line_finding : DrawnPin → Option Finding
    line_finding pin = fault_here (line_fault (own_field b pin) (has_line es b pin)) (side_place b pin.row pin.side)

    as_fault : (j k : BindKind) (p : Place) → OfBox j p → ◌≡◌ {A = Option BindKind} (Some j) (Some k) → OfBox k p
    as_fault j k p h e = subst (λ x. OfBox x p) (some_same e) h

    instance_meets : (k : BindKind) (o : Option Declared) → declared_at ds b.instance ≡ o → instance_fault b.block o ≡ Some k → OfBox k (corner b)
    instance_meets k None at e = as_fault UnknownName k (corner b) (unknown_box (refl, at)) e
    instance_meets k (Some (declared.Input j)) at e = as_fault WrongKind k (corner b) (wrong_box (declared.Input j, refl, at, λ is. cc)) e
    instance_meets k (Some (declared.Output j)) at e = as_fault WrongKind k (corner b) (wrong_box (declared.Output j, refl, at, λ is. cc)) e
    instance_meets k (Some (declared.Local j)) at e = as_fault WrongKind k (corner b) (wrong_box (declared.Local j, refl, at, λ is. cc)) e
    instance_meets k (Some (declared.Instance t)) at e = go (eqb (type_number t) (type_number b.block)) refl e
      where
        go : (x : Bool) → eqb (type_number t) (type_number b.block) ≡ x → ◌≡◌ {A = Option BindKind} (if x then None else Some WrongKind) (Some k) → OfBox k (corner b)
        go true same e' = absurd (nothing_found e')
        go false apart e' = as_fault WrongKind k (corner b) (wrong_box (declared.Instance t, refl, at, other)) e'
          where
            other : declared.Instance t ≡ declared.Instance b.block → ⊥
            other is =
                let same : t ≡ b.block = cc in
                false≢true (sym apart ∙ ap (λ x. eqb (type_number x) (type_number b.block)) same ∙ eqb_same (type_number b.block))

    bit_meets : (side : Side) (k : BindKind) → fault_if (not (has_bit b side)) PinMissing ≡ Some k → OfBox k (corner b)
    unfolding has_bit
    bit_meets side k e = go (has_bit b side) refl e
      where
        go : (x : Bool) → has_bit b side ≡ x → fault_if (not x) PinMissing ≡ Some k → OfBox k (corner b)
        go true has e' = absurd (nothing_found e')
        go false lacks e' = as_fault PinMissing k (corner b) (side, (refl, never)) e'
          where
            same : (s : Side) → same_side s s ≡ true
            same Left = refl
            same Right = refl

            never : (pin : DrawnPin) (n : ℕ) → Contains b.pins pin → pin.side ≡ side → own_field b pin ≡ Some (Bit n) → ⊥
            never pin n in' on own =
                let at = at_contains b.pins pin in' in
                let test = any_false (λ (q : DrawnPin). same_side side q.side && is_bit (own_field b q)) b.pins at.0 pin lacks at.1 in
                let passes : (same_side side pin.side && is_bit (own_field b pin)) ≡ true = ap (λ s. same_side side s && is_bit (own_field b pin)) on ∙ ap (λ o. same_side side side && is_bit o) own ∙ ap (λ x. x && true) (same side) in
                false≢true (sym test ∙ passes)

    corner_meets : All (Meets OfBox) (corner_findings ds b)
    unfolding corner_findings
    corner_meets =
        all_three (Meets OfBox) name_finding (bit_finding Left) (bit_finding Right)
        (here_meets OfBox (instance_fault b.block (declared_at ds b.instance)) (corner b) (λ k e. instance_meets k (declared_at ds b.instance) refl e))
        (here_meets OfBox (fault_if (not (has_bit b Left)) PinMissing) (corner b) (bit_meets Left))
        (here_meets OfBox (fault_if (not (has_bit b Right)) PinMissing) (corner b) (bit_meets Right))

    pin_meets : (n : ℕ) (pin : DrawnPin) → slice_get b.pins n ≡ Some pin → (k : BindKind) (o : Option Field) → own_field b pin ≡ o → (twice : Bool) → is_among b.block (take n b.pins) pin.name ≡ twice
        → pin_fault o twice ≡ Some k → OfBox k (side_place b pin.row pin.side)
    unfolding is_among
    pin_meets n pin at k None own twice is e = as_fault UnknownPin k _ (foreign_pin (n, pin, (at, refl), own)) e
    pin_meets n pin at k (Some f) own false is e = absurd (nothing_found e)
    pin_meets n pin at k (Some f) own true is e =
        let test : DrawnPin → Bool = λ q. same_pin (pin_of b.block q.name) (pin_of b.block pin.name) in
        let found = any_found (λ (q : DrawnPin). test q ≡ true) (take n b.pins) (Any-from_list_any test (take n b.pins) is) in
        let there = within_take b.pins n found.0 found.1 found.2 in
        let same = same_pins (pin_of b.block found.1.name) (pin_of b.block pin.name) found.3 in
        as_fault UnknownPin k _ (second_pin (found.0, n, found.1, pin, same.0, there.0, there.1, (at, refl), same.1, same.2)) e

    line_meets : (n : ℕ) (pin : DrawnPin) → slice_get b.pins n ≡ Some pin → (k : BindKind) (o : Option Field) → own_field b pin ≡ o → (lined : Bool) → has_line es b pin ≡ lined
        → line_fault o lined ≡ Some k → OfBox k (side_place b pin.row pin.side)
    unfolding has_line
    line_meets n pin at k None own lined is e = absurd (nothing_found e)
    line_meets n pin at k (Some (Bit j)) own lined is e = absurd (nothing_found e)
    line_meets n pin at k (Some Int) own false is e = absurd (nothing_found e)
    line_meets n pin at k (Some Int) own true is e = as_fault WrongKind k _ (wrong_line (n, pin, Int, (at, refl), own, (λ never. cc), beside_found b pin.row pin.side es is)) e
    line_meets n pin at k (Some Time) own false is e = absurd (nothing_found e)
    line_meets n pin at k (Some Time) own true is e = as_fault WrongKind k _ (wrong_line (n, pin, Time, (at, refl), own, (λ never. cc), beside_found b pin.row pin.side es is)) e

    literal_fits : (p : Place) (text : List ℕ) (want : Option Kind) (v : Value) (k : BindKind) → IsOperand b Left text want p → literal_value text ≡ Some v → LiteralFault want v k → OfBox k p
    literal_fits p text want v WrongKind o is (j, wanted, ne) = wrong_literal v j (text, subst (λ w. IsOperand b Left text w p) wanted o, is) ne
    literal_fits p text want v LiteralOutOfRange o is (wanted, never) = (v, (text, subst (λ w. IsOperand b Left text w p) wanted o, is), never)
    literal_fits p text want v k o is h = absurd h

    operand_meets : (pin : DrawnPin) (o : Operand) → Contains b.pins pin → pin.operand ≡ Some o → (side : Side) → pin.side ≡ side → (k : BindKind)
        → operand_fault ds side (kind_at (own_field b pin)) o.text ≡ Some k → OfBox k (place pin.row o.column)
    unfolding read_fault_at store_fault_at
    operand_meets pin o in' has side on k e = by side on e
      where
        want : Option Kind
        want = kind_at (own_field b pin)

        p : Place
        p = place pin.row o.column

        is : (s : Side) → pin.side ≡ s → IsOperand b s o.text (kind_at (own_field b pin)) (place pin.row o.column)
        is s on' = record { pin = pin; operand = o; drawn = in'; on = on'; stands = has; text_is = refl; want_is = refl; place_is = refl }

        read_by : pin.side ≡ Left → (v : Option Value) → literal_value o.text ≡ v → read_fault_by (kind_at (own_field b pin)) v (name_kind ds o.text) ≡ Some k → OfBox k (place pin.row o.column)
        read_by on' None lit e' = read_fault (Box b) (place pin.row o.column) o.text (kind_at (own_field b pin)) k (is Left on', lit) (read_found ds o.text (kind_at (own_field b pin)) k e')
        read_by on' (Some v) lit e' = literal_fits (place pin.row o.column) o.text (kind_at (own_field b pin)) v k (is Left on') lit (literal_found (kind_at (own_field b pin)) v k e')

        store_by : pin.side ≡ Right → (v : Option Value) → literal_value o.text ≡ v
            → store_fault_by (kind_at (own_field b pin)) v (store_name_fault (kind_at (own_field b pin)) (is_dotted o.text) (declared_at ds (before_first is_dot o.text))) ≡ Some k → OfBox k (place pin.row o.column)
        store_by on' None lit e' = store_fault (Box b) (place pin.row o.column) o.text (kind_at (own_field b pin)) k (is Right on', lit) (store_found ds o.text (kind_at (own_field b pin)) k e')
        store_by on' (Some v) lit e' = as_fault WrongKind k (place pin.row o.column) (literal_stored v (kind_at (own_field b pin)) (o.text, is Right on', lit)) e'

        by : (s : Side) → pin.side ≡ s → operand_fault ds s (kind_at (own_field b pin)) o.text ≡ Some k → OfBox k (place pin.row o.column)
        by Left on' e' = read_by on' (literal_value o.text) refl e'
        by Right on' e' = store_by on' (literal_value o.text) refl e'

    found_operand : (pin : DrawnPin) → Contains b.pins pin → (o : Option Operand) → pin.operand ≡ o → Meets OfBox (operand_finding ds b pin o)
    found_operand pin in' None has = nothing_meets OfBox
    found_operand pin in' (Some o) has = here_meets OfBox (operand_fault ds pin.side (kind_at (own_field b pin)) o.text) (place pin.row o.column) (λ k e. operand_meets pin o in' has pin.side refl k e)

    each_pin : (n : ℕ) (pin : DrawnPin) → slice_get b.pins n ≡ Some pin → All (Meets OfBox) (pin_findings ds es b n pin)
    unfolding pin_findings
    each_pin n pin at =
        let in' : Contains b.pins pin = (n, slice_get_within b.pins n pin at, get_or_from_slice_get b.pins n pin pin at) in
        let twice = is_among b.block (take n b.pins) pin.name in
        all_three (Meets OfBox) (side_finding n pin) (operand_finding ds b pin pin.operand) (line_finding pin)
        (here_meets OfBox (pin_fault (own_field b pin) twice) (side_place b pin.row pin.side) (λ k e. pin_meets n pin at k (own_field b pin) refl twice refl e))
        (found_operand pin in' pin.operand refl)
        (here_meets OfBox (line_fault (own_field b pin) (has_line es b pin)) (side_place b pin.row pin.side) (λ k e. line_meets n pin at k (own_field b pin) refl (has_line es b pin) refl e))

    each_of_pins : (n : ℕ) (pins : List DrawnPin) → ((j : ℕ) → slice_get b.pins (n + j) ≡ slice_get pins j) → All (Meets OfBox) (pins_findings ds es b n pins)
    each_of_pins n [] h = All-nil (Meets OfBox)
    each_of_pins n (pin ∷ pins) h =
        let none : n + 0 ≡ n = omega arith in
        All-append (Meets OfBox) (pin_findings ds es b n pin) (pins_findings ds es b (n + 1) pins) (each_pin n pin (ap (slice_get b.pins) (sym none) ∙ h 0))
        (each_of_pins (n + 1) pins (λ j. let along : n + 1 + j ≡ n + suc j = omega arith in ap (slice_get b.pins) along ∙ h (suc j)))

    box_meets : All (Meets OfBox) (box_findings ds es b)
    unfolding box_findings
    box_meets = All-append (Meets OfBox) (corner_findings ds b) (pins_findings ds es b 0 b.pins) corner_meets
        (each_of_pins 0 b.pins (λ j. let same : 0 + j ≡ j = omega arith in ap (slice_get b.pins) same))

  -- what is found of an element is a fault of it
  element_meets : (e : Element) → All (Meets (λ k p. IsFaultOf ds es k e p)) (element_findings ds es e)
  unfolding variable_declared
  element_meets (Wire at) = All-nil (Meets (λ k p. IsFaultOf ds es k (Wire at) p))
  element_meets (Join at) = All-nil (Meets (λ k p. IsFaultOf ds es k (Join at) p))
  element_meets (Upright at) = All-nil (Meets (λ k p. IsFaultOf ds es k (Upright at) p))
  element_meets (Contact c) =
      let P : BindKind → Place → Type 0 = λ k p. IsFaultOf ds es k (Contact c) p in
      let fault = read_name_fault (Some kind.Bool) (name_kind ds c.name) in
      all_one (Meets P) (fault_here fault (place c.row c.column))
      (here_meets P fault (place c.row c.column) (λ k e. read_fault (Contact c) (place c.row c.column) c.name (Some kind.Bool) k (refl, refl, refl) (read_found ds c.name (Some kind.Bool) k e)))
  element_meets (Coil c) =
      let P : BindKind → Place → Type 0 = λ k p. IsFaultOf ds es k (Coil c) p in
      let fault = fault_with write_fault (variable_declared ds c.name) in
      all_one (Meets P) (fault_here fault (place c.row c.column)) (here_meets P fault (place c.row c.column) (λ k e.
      store_fault (Coil c) (place c.row c.column) c.name (Some kind.Bool) k (refl, refl, refl)
      (store_found ds c.name (Some kind.Bool) k (sym (coil_stores (is_dotted c.name) (declared_at ds (before_first is_dot c.name))) ∙ e))))
  element_meets (Box b) = box_meets b

  -- a fault is found: those of a box
  module _ (b : DrawnBox) where
    pins_contain : (n j : ℕ) (pins : List DrawnPin) (pin : DrawnPin) (o : Option Finding) → slice_get pins j ≡ Some pin → Contains (pin_findings ds es b (n + j) pin) o → Contains (pins_findings ds es b n pins) o
    pins_contain n j [] pin o at h = absurd (nothing_found at)
    pins_contain n zero (q ∷ pins) pin o at h =
        let none : n + 0 ≡ n = omega arith in
        let here : Contains (pin_findings ds es b n q) o = subst (λ w. Contains (pin_findings ds es b n w) o) (sym (some_same at)) (subst (λ m. Contains (pin_findings ds es b m pin) o) none h) in
        Contains-append_left (pin_findings ds es b n q) (pins_findings ds es b (n + 1) pins) o here
    pins_contain n (suc j) (q ∷ pins) pin o at h =
        let along : n + suc j ≡ n + 1 + j = omega arith in
        Contains-append_right (pin_findings ds es b n q) (pins_findings ds es b (n + 1) pins) o (pins_contain (n + 1) j pins pin o at (subst (λ m. Contains (pin_findings ds es b m pin) o) along h))

    pin_in : (j : ℕ) (pin : DrawnPin) (o : Option Finding) → slice_get b.pins j ≡ Some pin → Contains (pin_findings ds es b j pin) o → Contains (box_findings ds es b) o
    unfolding box_findings
    pin_in j pin o at h =
        let same : j ≡ 0 + j = omega arith in
        Contains-append_right (corner_findings ds b) (pins_findings ds es b 0 b.pins) o (pins_contain 0 j b.pins pin o at (subst (λ m. Contains (pin_findings ds es b m pin) o) same h))

    corner_in : (o : Option Finding) → Contains (corner_findings ds b) o → Contains (box_findings ds es b) o
    unfolding box_findings
    corner_in o h = Contains-append_left (corner_findings ds b) (pins_findings ds es b 0 b.pins) o h

    instance_in : (k : BindKind) (p : Place) → corner b ≡ p → instance_fault b.block (declared_at ds b.instance) ≡ Some k → Contains (box_findings ds es b) (Some (finding k p))
    unfolding corner_findings
    instance_in k p at is =
        let there : Contains (corner_findings ds b) (name_finding b) = cons_first (name_finding b) (bit_finding b Left ∷ bit_finding b Right ∷ []) in
        corner_in (Some (finding k p)) (subst (λ o. Contains (corner_findings ds b) o) (here_is (instance_fault b.block (declared_at ds b.instance)) k (corner b) p is at) there)

    other_instance : (w : Declared) → (w ≡ declared.Instance b.block → ⊥) → instance_fault b.block (Some w) ≡ Some WrongKind
    other_instance (declared.Input j) never = refl
    other_instance (declared.Output j) never = refl
    other_instance (declared.Local j) never = refl
    other_instance (declared.Instance t) never = go (eqb (type_number t) (type_number b.block)) refl
      where
        go : (x : Bool) → eqb (type_number t) (type_number b.block) ≡ x → ◌≡◌ {A = Option BindKind} (if x then None else Some WrongKind) (Some WrongKind)
        go true same = absurd (never (ap (λ x. declared.Instance x) (same_number t b.block same)))
        go false apart = refl

    lacking : (side : Side) → ((pin : DrawnPin) (n : ℕ) → Contains b.pins pin → pin.side ≡ side → own_field b pin ≡ Some (Bit n) → ⊥) → has_bit b side ≡ false
    unfolding has_bit
    lacking side never = go (has_bit b side) refl
      where
        sides : (s t : Side) → same_side s t ≡ true → t ≡ s
        sides Left Left e = refl
        sides Right Right e = refl
        sides s t e = cc

        bit : (o : Option Field) → is_bit o ≡ true → (n : ℕ) × (o ≡ Some (Bit n))
        bit None e = absurd (false≢true e)
        bit (Some (Bit n)) e = (n, refl)
        bit (Some Int) e = absurd (false≢true e)
        bit (Some Time) e = absurd (false≢true e)

        go : (x : Bool) → has_bit b side ≡ x → x ≡ false
        go false e = refl
        go true e =
            let test : DrawnPin → Bool = λ q. same_side side q.side && is_bit (own_field b q) in
            let found = any_found (λ (q : DrawnPin). test q ≡ true) b.pins (Any-from_list_any test b.pins e) in
            let parts = and_parts (same_side side found.1.side) (is_bit (own_field b found.1)) found.3 in
            let is = bit (own_field b found.1) parts.1 in
            absurd (never found.1 is.0 (found.0, slice_get_within b.pins found.0 found.1 found.2, get_or_from_slice_get b.pins found.0 found.1 found.1 found.2) (sides side found.1.side parts.0) is.1)

    missing_in : (side : Side) (p : Place) → LacksBit p side b → Contains (box_findings ds es b) (Some (finding PinMissing p))
    unfolding corner_findings
    missing_in Left p (at, never) =
        let there : Contains (corner_findings ds b) (bit_finding b Left) = second_of (name_finding b) (bit_finding b Left) (bit_finding b Right ∷ []) in
        corner_in (Some (finding PinMissing p))
        (subst (λ o. Contains (corner_findings ds b) o) (here_is (fault_if (not (has_bit b Left)) PinMissing) PinMissing (corner b) p (ap (λ x. fault_if (not x) PinMissing) (lacking Left never)) at) there)
    missing_in Right p (at, never) =
        let there : Contains (corner_findings ds b) (bit_finding b Right) = third_of (name_finding b) (bit_finding b Left) (bit_finding b Right) [] in
        corner_in (Some (finding PinMissing p))
        (subst (λ o. Contains (corner_findings ds b) o) (here_is (fault_if (not (has_bit b Right)) PinMissing) PinMissing (corner b) p (ap (λ x. fault_if (not x) PinMissing) (lacking Right never)) at) there)

    side_in : (j : ℕ) (pin : DrawnPin) (p : Place) → IsPinAt b j pin p → pin_fault (own_field b pin) (is_among b.block (take j b.pins) pin.name) ≡ Some UnknownPin
        → Contains (box_findings ds es b) (Some (finding UnknownPin p))
    unfolding pin_findings
    side_in j pin p (at, here) is =
        let there : Contains (pin_findings ds es b j pin) (side_finding b j pin) = cons_first (side_finding b j pin) (operand_finding ds b pin pin.operand ∷ line_finding b pin ∷ []) in
        let twice = is_among b.block (take j b.pins) pin.name in
        pin_in j pin (Some (finding UnknownPin p)) at
        (subst (λ o. Contains (pin_findings ds es b j pin) o) (here_is (pin_fault (own_field b pin) twice) UnknownPin (side_place b pin.row pin.side) p is here) there)

    second_is : (o : Option Field) (twice : Bool) → twice ≡ true → pin_fault o twice ≡ Some UnknownPin
    second_is None twice e = refl
    second_is (Some f) twice e = rw e refl

    among : (i j : ℕ) (q pin : DrawnPin) (found : Pin) → i < j → slice_get b.pins i ≡ Some q → pin_of b.block q.name ≡ Some found → pin_of b.block pin.name ≡ Some found
        → is_among b.block (take j b.pins) pin.name ≡ true
    unfolding is_among
    among i j q pin found lt at is is' =
        let test : DrawnPin → Bool = λ w. same_pin (pin_of b.block w.name) (pin_of b.block pin.name) in
        let passes : test q ≡ true = ap (λ o. same_pin o (pin_of b.block pin.name)) is ∙ ap (λ o. same_pin (Some found) o) is' ∙ same_pin_refl found in
        list_any-from_Any test (take j b.pins) (any_at (λ (w : DrawnPin). test w ≡ true) (take j b.pins) i q (slice_get-take b.pins j i lt ∙ at) passes)

    line_in : (j : ℕ) (pin : DrawnPin) (p : Place) (field : Field) → IsPinAt b j pin p → own_field b pin ≡ Some field → (field_kind field ≡ kind.Bool → ⊥) → HasLine es pin.side p
        → Contains (box_findings ds es b) (Some (finding WrongKind p))
    unfolding pin_findings has_line
    line_in j pin p field (at, here) own never lined =
        let beside = beside_meant b pin.row pin.side es (subst (λ q. HasLine es pin.side q) (sym here) lined) in
        let there : Contains (pin_findings ds es b j pin) (line_finding b pin) = third_of (side_finding b j pin) (operand_finding ds b pin pin.operand) (line_finding b pin) [] in
        let fault : line_fault (own_field b pin) (has_line es b pin) ≡ Some WrongKind = ap (λ o. line_fault o (has_line es b pin)) own ∙ ap (line_fault (Some field)) beside ∙ wrong field never in
        pin_in j pin (Some (finding WrongKind p)) at
        (subst (λ o. Contains (pin_findings ds es b j pin) o) (here_is (line_fault (own_field b pin) (has_line es b pin)) WrongKind (side_place b pin.row pin.side) p fault here) there)
      where
        wrong : (f : Field) → (field_kind f ≡ kind.Bool → ⊥) → line_fault (Some f) true ≡ Some WrongKind
        wrong (Bit n) no' = absurd (no' refl)
        wrong Int no' = refl
        wrong Time no' = refl

    operand_in : (side : Side) (text : List ℕ) (want : Option Kind) (p : Place) (k : BindKind) → IsOperand b side text want p → operand_fault ds side want text ≡ Some k → Contains (box_findings ds es b) (Some (finding k p))
    unfolding pin_findings
    operand_in side text want p k o is =
        let at = at_contains b.pins o.pin o.drawn in
        let same : operand_fault ds o.pin.side (kind_at (own_field b o.pin)) o.operand.text ≡ operand_fault ds side want text =
        ap (λ s. operand_fault ds s (kind_at (own_field b o.pin)) o.operand.text) o.on ∙ ap (λ w. operand_fault ds side w o.operand.text) o.want_is ∙ ap (operand_fault ds side want) o.text_is in
        let here : operand_finding ds b o.pin o.pin.operand ≡ Some (finding k p) =
        ap (operand_finding ds b o.pin) o.stands ∙ here_is (operand_fault ds o.pin.side (kind_at (own_field b o.pin)) o.operand.text) k (place o.pin.row o.operand.column) p (same ∙ is) o.place_is in
        let there : Contains (pin_findings ds es b at.0 o.pin) (operand_finding ds b o.pin o.pin.operand) = second_of (side_finding b at.0 o.pin) (operand_finding ds b o.pin o.pin.operand) (line_finding b o.pin ∷ []) in
        pin_in at.0 o.pin (Some (finding k p)) at.1 (subst (λ w. Contains (pin_findings ds es b at.0 o.pin) w) here there)

  read_operand : (text : List ℕ) (want : Option Kind) (k : BindKind) → literal_value text ≡ None → ReadFault ds text want k → operand_fault ds Left want text ≡ Some k
  unfolding read_fault_at
  read_operand text want k lit h = rw lit (read_meant ds text want k h)

  store_operand : (text : List ℕ) (want : Option Kind) (k : BindKind) → literal_value text ≡ None → StoreFault ds text want k → operand_fault ds Right want text ≡ Some k
  unfolding store_fault_at
  store_operand text want k lit h = rw lit (store_meant ds text want k h)

  literal_operand : (text : List ℕ) (want : Option Kind) (v : Value) (k : BindKind) → literal_value text ≡ Some v → LiteralFault want v k → operand_fault ds Left want text ≡ Some k
  unfolding read_fault_at
  literal_operand text want v k lit h = rw lit (literal_meant want v k h)

  stored_literal : (text : List ℕ) (want : Option Kind) (v : Value) → literal_value text ≡ Some v → operand_fault ds Right want text ≡ Some WrongKind
  unfolding store_fault_at
  stored_literal text want v lit = rw lit refl

  read_meets : (e : Element) (p : Place) (text : List ℕ) (want : Option Kind) (k : BindKind) → Reads e p text want → ReadFault ds text want k → Contains (element_findings ds es e) (Some (finding k p))
  read_meets (Wire at) p text want k r h = absurd r
  read_meets (Join at) p text want k r h = absurd r
  read_meets (Upright at) p text want k r h = absurd r
  read_meets (Contact c) p text want k (named, wanted, at) h =
      let same : read_name_fault (Some kind.Bool) (name_kind ds c.name) ≡ read_name_fault want (name_kind ds text) =
      ap (λ w. read_name_fault w (name_kind ds c.name)) wanted ∙ ap (λ t. read_name_fault want (name_kind ds t)) named in
      let fault = read_name_fault (Some kind.Bool) (name_kind ds c.name) in
      subst (λ o. Contains (element_findings ds es (Contact c)) o) (here_is fault k (place c.row c.column) p (same ∙ read_meant ds text want k h) at) (cons_first (fault_here fault (place c.row c.column)) [])
  read_meets (Coil c) p text want k r h = absurd r
  read_meets (Box b) p text want k (o, lit) h = operand_in b Left text want p k o (read_operand text want k lit h)

  store_meets : (e : Element) (p : Place) (text : List ℕ) (want : Option Kind) (k : BindKind) → Stores e p text want → StoreFault ds text want k → Contains (element_findings ds es e) (Some (finding k p))
  unfolding variable_declared
  store_meets (Wire at) p text want k r h = absurd r
  store_meets (Join at) p text want k r h = absurd r
  store_meets (Upright at) p text want k r h = absurd r
  store_meets (Contact c) p text want k r h = absurd r
  store_meets (Coil c) p text want k (named, wanted, at) h =
      let fault = fault_with write_fault (variable_declared ds c.name) in
      let stores : List ℕ → Option Kind → Option BindKind = λ t w. store_name_fault w (is_dotted t) (declared_at ds (before_first is_dot t)) in
      let same : stores c.name (Some kind.Bool) ≡ stores text want = ap (stores c.name) wanted ∙ ap (λ t. stores t want) named in
      subst (λ o. Contains (element_findings ds es (Coil c)) o)
      (here_is fault k (place c.row c.column) p (coil_stores (is_dotted c.name) (declared_at ds (before_first is_dot c.name)) ∙ same ∙ store_meant ds text want k h) at)
      (cons_first (fault_here fault (place c.row c.column)) [])
  store_meets (Box b) p text want k (o, lit) h = operand_in b Right text want p k o (store_operand text want k lit h)

  -- what holds of an element that is a box is found where it is found of each box
  of_box : (P : DrawnBox → Type 0) (o : Option Finding) → ((b : DrawnBox) → P b → Contains (box_findings ds es b) o) → (e : Element) → IsBox P e → Contains (element_findings ds es e) o
  of_box P o f (Wire at) h = absurd h
  of_box P o f (Join at) h = absurd h
  of_box P o f (Upright at) h = absurd h
  of_box P o f (Contact c) h = absurd h
  of_box P o f (Coil c) h = absurd h
  of_box P o f (Box b) h = f b h

  -- a fault of an element is found
  element_found : (k : BindKind) (e : Element) (p : Place) → IsFaultOf ds es k e p → Contains (element_findings ds es e) (Some (finding k p))
  element_found UnknownName e p (unknown_read text want r h) = read_meets e p text want UnknownName r h
  element_found UnknownName e p (unknown_stored text want r h) = store_meets e p text want UnknownName r h
  element_found UnknownName e p (unknown_box h) = of_box (IsNamedByNone ds p) (Some (finding UnknownName p)) (λ b n. instance_in b UnknownName p n.0 (rw n.1 refl)) e h
  element_found WrongKind e p (wrong_read text want r h) = read_meets e p text want WrongKind r h
  element_found WrongKind e p (wrong_stored text want r h) = store_meets e p text want WrongKind r h
  element_found WrongKind e p (wrong_literal v k h ne) =
      of_box (λ b. (text : List ℕ) × IsOperand b Left text (Some k) p × (literal_value text ≡ Some v)) (Some (finding WrongKind p))
      (λ b n. operand_in b Left n.0 (Some k) p WrongKind n.1 (literal_operand n.0 (Some k) v WrongKind n.2 (k, refl, ne))) e h
  element_found WrongKind e p (literal_stored v want h) =
      of_box (λ b. (text : List ℕ) × IsOperand b Right text want p × (literal_value text ≡ Some v)) (Some (finding WrongKind p)) (λ b n. operand_in b Right n.0 want p WrongKind n.1 (stored_literal n.0 want v n.2)) e h
  element_found WrongKind e p (wrong_line h) = of_box (HasLinedPin es p) (Some (finding WrongKind p)) (λ b n. line_in b n.0 n.1 p n.2 n.3 n.4 n.5 n.6) e h
  element_found WrongKind e p (wrong_box h) = of_box (IsNamedOtherwise ds p) (Some (finding WrongKind p)) (λ b n. instance_in b WrongKind p n.1 (rw n.2 (other_instance b n.0 n.3))) e h
  element_found WritesInput e p (text, want, r, h) = store_meets e p text want WritesInput r h
  element_found UnknownPin e p (unknown_output text want r h) = read_meets e p text want UnknownPin r h
  element_found UnknownPin e p (foreign_pin h) = of_box (HasForeignPin p) (Some (finding UnknownPin p)) (λ b n. side_in b n.0 n.1 p n.2 (rw n.3 refl)) e h
  element_found UnknownPin e p (second_pin h) =
      of_box (HasSecondPin p) (Some (finding UnknownPin p)) (λ b n. side_in b n.1 n.3 p n.7 (second_is b (own_field b n.3) (is_among b.block (take n.1 b.pins) n.3.name) (among b n.0 n.1 n.2 n.3 n.4 n.5 n.6 n.8 n.9))) e h
  element_found PinMissing e p (side, h) = of_box (LacksBit p side) (Some (finding PinMissing p)) (λ b n. missing_in b side p n) e h
  element_found LiteralOutOfRange e p (v, h, never) =
      of_box (λ b. (text : List ℕ) × IsOperand b Left text (Some (kind_of v)) p × (literal_value text ≡ Some v)) (Some (finding LiteralOutOfRange p))
      (λ b n. operand_in b Left n.0 (Some (kind_of v)) p LiteralOutOfRange n.1 (literal_operand n.0 (Some (kind_of v)) v LiteralOutOfRange n.2 (refl, never))) e h
  element_found Memory e p h = absurd h

  network_meets : All (Meets (IsFaultIn ds es)) (network_findings ds es)
  network_meets = each_flat (element_findings ds es) (Meets (IsFaultIn ds es)) es (λ i e at.
      All-weaker (Meets (λ k p. IsFaultOf ds es k e p)) (Meets (IsFaultIn ds es)) (λ o h f is. any_at (λ x. IsFaultOf ds es f.kind x (place f.row f.column)) es i e at (h f is)) (element_findings ds es e) (element_meets e))

  network_found : (k : BindKind) (p : Place) → IsFaultIn ds es k p → Contains (network_findings ds es) (Some (finding k p))
  network_found k p h =
      let at = any_found (λ x. IsFaultOf ds es k x p) es h in
      in_flat (element_findings ds es) es at.0 at.1 (Some (finding k p)) at.2 (element_found k at.1 p at.3)

  -- where a network has no fault, nothing is found wrong with it
  pub no_finding : IsBoundNetwork ds es → HasNoFinding ds es
  unfolding IsBoundNetwork
  no_finding bound i e lt = All-weaker (Meets (λ k p. IsFaultOf ds es k (get_or es i e) p)) (λ o. o ≡ None) none (element_findings ds es (get_or es i e)) (element_meets (get_or es i e))
    where
      none : (o : Option Finding) → Meets (λ k p. IsFaultOf ds es k (get_or es i e) p) o → o ≡ None
      none None h = refl
      none (Some f) h = absurd (bound f.kind (place f.row f.column) (any_at (λ x. IsFaultOf ds es f.kind x (place f.row f.column)) es i (get_or es i e) (slice_get-get_or es i e lt) (h f refl)))

  -- where nothing is found wrong with a network, it has no fault
  is_bound : HasNoFinding ds es → IsBoundNetwork ds es
  unfolding IsBoundNetwork
  is_bound none k p h =
      let at = any_found (λ x. IsFaultOf ds es k x p) es h in
      let each : IsBound ds es at.1 = All-contains (IsBound ds es) es at.1 none (at.0, slice_get_within es at.0 at.1 at.2, get_or_from_slice_get es at.0 at.1 at.1 at.2) in
      nothing_found (sym (All-contains (λ o. o ≡ None) (element_findings ds es at.1) (Some (finding k p)) each (element_found k at.1 p at.3)))

pub bound_from_none : (ds : List Declaration) (networks : List (List Element)) → IsFirstFinding (findings ds networks) None → All (IsBoundNetwork ds) networks
bound_from_none ds networks h = All-weaker (HasNoFinding ds) (IsBoundNetwork ds) (λ es none. is_bound ds es none) networks (none_in_networks ds networks h)

abbrev InSome : List Declaration → List (List Element) → BindKind → Place → Type 0
InSome ds networks k p = Any (λ es. IsFaultIn ds es k p) networks

-- what is found in the networks is a fault of them
found_is : (ds : List Declaration) (networks : List (List Element)) (f : Finding) → Contains (findings ds networks) (Some f) → IsFault ds networks f
unfolding findings
found_is ds networks f in' = All-contains (Meets (InSome ds networks)) (findings ds networks) (Some f) each in' f refl
  where
    each : All (Meets (InSome ds networks)) (flat_map (network_findings ds) networks)
    each = each_flat (network_findings ds) (Meets (InSome ds networks)) networks (λ i es at.
        All-weaker (Meets (IsFaultIn ds es)) (Meets (InSome ds networks)) (λ o h g is. any_at (λ x. IsFaultIn ds x g.kind (place g.row g.column)) networks i es at (h g is)) (network_findings ds es) (network_meets ds es))

-- a fault of the networks is found
is_found : (ds : List Declaration) (networks : List (List Element)) (f : Finding) → IsFault ds networks f → Contains (findings ds networks) (Some f)
unfolding findings
is_found ds networks f h =
    let at = any_found (λ x. IsFaultIn ds x f.kind (place f.row f.column)) networks h in
    in_flat (network_findings ds) networks at.0 at.1 (Some f) at.2 (network_found ds at.1 f.kind (place f.row f.column) at.3)

-- the first of what is found is the first of the faults
pub first_fault : (ds : List Declaration) (networks : List (List Element)) (f : Finding) → IsFirstFinding (findings ds networks) (Some f)
    → IsFault ds networks f × ((g : Finding) → IsFault ds networks g → ComesNoLater f g)
first_fault ds networks f (in', first) =
    (found_is ds networks f in', λ g h. All-contains (λ o. (x : Finding) → o ≡ Some x → ComesNoLater f x) (findings ds networks) (Some g) first (is_found ds networks g h) g refl)

-- the first of the faults is the first of what is found
pub first_found : (ds : List Declaration) (networks : List (List Element)) (f : Finding) → IsFault ds networks f → ((g : Finding) → IsFault ds networks g → ComesNoLater f g)
    → IsFirstFinding (findings ds networks) (Some f)
first_found ds networks f h first =
    (is_found ds networks f h, λ i o lt g is. first g (found_is ds networks g (i, lt, get_or_from_slice_get (findings ds networks) i (get_or (findings ds networks) i o) (Some g) (slice_get-get_or (findings ds networks) i o lt) ∙ is)))

-- where a fault was found, not all networks are without
pub not_bound : (ds : List Declaration) (networks : List (List Element)) (f : Finding) → Contains (findings ds networks) (Some f) → All (IsBoundNetwork ds) networks → ⊥
unfolding IsBoundNetwork
not_bound ds networks f in' all =
    let h = any_found (λ x. IsFaultIn ds x f.kind (place f.row f.column)) networks (found_is ds networks f in') in
    let bound : IsBoundNetwork ds h.1 = All-contains (IsBoundNetwork ds) networks h.1 all (contains_at networks h.0 h.1 h.2) in
    bound f.kind (place f.row f.column) h.3

-- a fault that was found is no lack of memory
pub named_kind : (ds : List Declaration) (networks : List (List Element)) (f : Finding) → Contains (findings ds networks) (Some f) → f.kind ≡ Memory → ⊥
named_kind ds networks f in' is =
    let h = any_found (λ x. IsFaultIn ds x f.kind (place f.row f.column)) networks (found_is ds networks f in') in
    let e = any_found (λ x. IsFaultOf ds h.1 f.kind x (place f.row f.column)) h.1 h.3 in
    subst (λ k. IsFaultOf ds h.1 k e.1 (place f.row f.column)) is e.3

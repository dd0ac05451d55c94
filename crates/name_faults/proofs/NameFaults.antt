-- What is found wrong with a name or a literal is what the definitions call a fault, and the other way round.
use Rattle.std.proofs.Common.{◌≡◌, ℕ, ◌⊎◌, inl, inr, List, [], ◌∷◌, Bool, true, false, Option, Some, None, Result, Ok, Err, refl, sym, ap, ◌∙◌, subst, if◌then◌else◌}
use Rattle.std.specs.List.{before_first, after_first}
use Rattle.std.proofs.lemmas.Bool.{false≢true}
use Rattle.lists.proofs.Places.{some_same}
use Rattle.std_blocks.specs.declared.value.Value.{Value}
use Rattle.std_blocks.specs.declared.block_type.BlockType.{BlockType}
use Rattle.std_blocks.specs.declared.block_type.BlockType.TheVariants.{SR, RS, CTU, CTD, CTUD, TP, TON, TOF}
use Rattle.std_blocks.specs.declared.pin.Field.{Field}
use Rattle.std_blocks.specs.declared.pin.Pin.{Pin}
use Rattle.std_blocks.specs.Pins.{pin_of, output}
use Rattle.name_faults.specs.declared.bind_fault.BindKind.{BindKind}
use Rattle.name_faults.specs.declared.bind_fault.BindKind.TheVariants.{UnknownName, WrongKind, WritesInput, UnknownPin, PinMissing, LiteralOutOfRange, Memory}
use Rattle.declared_names.specs.declared.declarations.Declaration.{Declaration}
use Rattle.declared_names.specs.declared.declarations.Declared.{Declared}
use Rattle.declared_names.specs.declared.declarations.Declared.TheVariants.{Input, Output, Local, Instance}
use Rattle.declared_names.specs.declared.declarations.Kind.{Kind}
use Rattle.declared_names.specs.declared.declarations.Kind.TheVariants as kind
use Rattle.declared_names.specs.Names.{is_dot}
use Rattle.declared_names.specs.Kinds.{kind_of}
use Rattle.name_faults.specs.PinKinds.{field_kind}
use Rattle.name_faults.specs.Lookup.{declared_at, is_dotted}
use Rattle.name_faults.specs.BindFaults.{IsVariable, IsNameOf, IsUndeclared, IsVariableName, IsOutputName, CannotRead, reads_part, reads_instance, reads_other, CannotStore, stores_dotted, stores_instance, stores_other, IsInputName, LacksOutput, in_range}
use Rattle.name_faults.specs.Steps.BoxFindings.{same_kind, wants, output_kind, declared_kind, kind_if_declared, name_kind, read_name_fault, literal_fault, store_declared_fault, store_name_fault}
use Rattle.name_faults.specs.Steps.ElementFindings.{write_fault, as_variable, fault_with}
use Rattle.name_faults.specs.Steps.Named.{IsDeclaredVariable}
use Rattle.name_faults.proofs.Dots.{no_dot}

-- what is wrong with reading a name, kind by kind
abbrev pub ReadFault : List Declaration → List ℕ → Option Kind → BindKind → Type 0
ReadFault ds text want UnknownName = IsUndeclared ds text
ReadFault ds text want WrongKind = CannotRead ds text want
ReadFault ds text want WritesInput = ⊥
ReadFault ds text want UnknownPin = LacksOutput ds text
ReadFault ds text want PinMissing = ⊥
ReadFault ds text want LiteralOutOfRange = ⊥
ReadFault ds text want Memory = ⊥

-- what is wrong with storing at a name, kind by kind
abbrev pub StoreFault : List Declaration → List ℕ → Option Kind → BindKind → Type 0
StoreFault ds text want UnknownName = IsUndeclared ds text
StoreFault ds text want WrongKind = CannotStore ds text want
StoreFault ds text want WritesInput = IsInputName ds text want
StoreFault ds text want UnknownPin = ⊥
StoreFault ds text want PinMissing = ⊥
StoreFault ds text want LiteralOutOfRange = ⊥
StoreFault ds text want Memory = ⊥

-- what is wrong with a literal, kind by kind
abbrev pub LiteralFault : Option Kind → Value → BindKind → Type 0
LiteralFault want v UnknownName = ⊥
LiteralFault want v WrongKind = (k : Kind) × (want ≡ Some k) × (kind_of v ≡ k → ⊥)
LiteralFault want v WritesInput = ⊥
LiteralFault want v UnknownPin = ⊥
LiteralFault want v PinMissing = ⊥
LiteralFault want v LiteralOutOfRange = (want ≡ Some (kind_of v)) × (in_range v ≡ false)
LiteralFault want v Memory = ⊥

pub nothing_found : {X : Type 0} {x : X} → None ≡ Some x → ⊥
nothing_found e = cc

not_empty : {X : Type 0} {x : X} {xs : List X} → x ∷ xs ≡ [] → ⊥
not_empty e = cc

same_kind_refl : (k : Kind) → same_kind k k ≡ true
same_kind_refl kind.Bool = refl
same_kind_refl kind.Int = refl
same_kind_refl kind.Time = refl

kinds_agree : (j k : Kind) → same_kind j k ≡ true → j ≡ k
kinds_agree kind.Bool kind.Bool e = refl
kinds_agree kind.Int kind.Int e = refl
kinds_agree kind.Time kind.Time e = refl
kinds_agree j k e = cc

kinds_differ : (j k : Kind) → same_kind k j ≡ false → j ≡ k → ⊥
kinds_differ j k e is = false≢true (sym e ∙ ap (same_kind k) is ∙ same_kind_refl k)

differ_kinds : (j k : Kind) → (j ≡ k → ⊥) → same_kind k j ≡ false
differ_kinds j k ne = go (same_kind k j) refl
  where
    go : (b : Bool) → same_kind k j ≡ b → same_kind k j ≡ false
    go true e = absurd (ne (sym (kinds_agree k j e)))
    go false e = e

-- no pin has an empty name
no_pin : (block : BlockType) → pin_of block [] ≡ None
unfolding pin_of
no_pin SR = refl
no_pin RS = refl
no_pin CTU = refl
no_pin CTD = refl
no_pin CTUD = refl
no_pin TP = refl
no_pin TON = refl
no_pin TOF = refl

-- the kind at the name of a variable, with or without a part behind a dot
abbrev variable_kind : Kind → List ℕ → Result (Option Kind) BindKind
variable_kind j [] = Ok (Some j)
variable_kind j (c ∷ pin) = Err WrongKind

declared_variable : (w : Declared) (j : Kind) (pin : List ℕ) → IsVariable w j → declared_kind w pin ≡ variable_kind j pin
declared_variable (Input i) j [] is = ap (λ k. Ok (Some k)) is
declared_variable (Input i) j (c ∷ pin) is = refl
declared_variable (Output i) j [] is = ap (λ k. Ok (Some k)) is
declared_variable (Output i) j (c ∷ pin) is = refl
declared_variable (Local i) j [] is = ap (λ k. Ok (Some k)) is
declared_variable (Local i) j (c ∷ pin) is = refl
declared_variable (Instance block) j pin is = absurd is

module _ (ds : List Declaration) (text : List ℕ) (want : Option Kind) where
  read_as : (j k : BindKind) → ReadFault ds text want j → ◌≡◌ {A = Option BindKind} (Some j) (Some k) → ReadFault ds text want k
  read_as j k h e = subst (ReadFault ds text want) (some_same e) h

  -- a value of kind j, read where a kind may be wanted
  value_read : (j : Kind) (k : BindKind) → IsVariableName ds text j ⊎ IsOutputName ds text j → (v : Option Kind) → want ≡ v → read_name_fault v (Ok (Some j)) ≡ Some k → ReadFault ds text want k
  value_read j k is None wanted e = absurd (nothing_found e)
  value_read j k is (Some x) wanted e = test (same_kind x j) refl e
    where
      test : (b : Bool) → same_kind x j ≡ b → ◌≡◌ {A = Option BindKind} (if b then None else Some WrongKind) (Some k) → ReadFault ds text want k
      test true same e' = absurd (nothing_found e')
      test false same e' = read_as WrongKind k (reads_other j x is wanted (kinds_differ j x same)) e'

  variable_read : (w : Declared) (j : Kind) (k : BindKind) → IsVariable w j → IsNameOf ds text w → (pin : List ℕ) → after_first is_dot text ≡ pin
      → read_name_fault want (variable_kind j pin) ≡ Some k → ReadFault ds text want k
  variable_read w j k is at [] end e = value_read j k (inl (w, at, is, end)) want refl e
  variable_read w j k is at (c ∷ pin) more e = read_as WrongKind k (reads_part w j at is (λ whole. not_empty (sym more ∙ whole))) e

  instance_read : (block : BlockType) (k : BindKind) → IsNameOf ds text (Instance block) → (pin : List ℕ) → after_first is_dot text ≡ pin → (v : Option Kind) → want ≡ v
      → read_name_fault v (declared_kind (Instance block) pin) ≡ Some k → ReadFault ds text want k
  instance_read block k at [] end None wanted e = absurd (nothing_found e)
  instance_read block k at [] end (Some x) wanted e = read_as WrongKind k (reads_instance block x at end wanted) e
  instance_read block k at (c ∷ pin) more v wanted e = found (pin_of block (c ∷ pin)) refl e
    where
      lacks : ((field : Field) → pin_of block (c ∷ pin) ≡ Some (output field) → ⊥) → LacksOutput ds text
      lacks never = (block, at, (λ whole. not_empty (sym more ∙ whole)), (λ field has. never field (ap (pin_of block) (sym more) ∙ has)))

      side : (left : Bool) (field : Field) → pin_of block (c ∷ pin) ≡ Some (record { left = left; field = field }) → read_name_fault v (output_kind (Some (record { left = left; field = field }))) ≡ Some k
          → ReadFault ds text want k
      side true field some e' = read_as UnknownPin k (lacks (λ f has. let same = some_same (sym some ∙ has) in false≢true (sym (ap (λ (p : Pin). p.left) same)))) e'
      side false field some e' = value_read (field_kind field) k (inr (block, field, at, ap (pin_of block) more ∙ some, refl)) v wanted e'

      found : (o : Option Pin) → pin_of block (c ∷ pin) ≡ o → read_name_fault v (output_kind o) ≡ Some k → ReadFault ds text want k
      found None none e' = read_as UnknownPin k (lacks (λ f has. nothing_found (sym none ∙ has))) e'
      found (Some p) some e' = side p.left p.field some e'

  -- what is found wrong with reading a name is a fault
  pub read_found : (k : BindKind) → read_name_fault want (name_kind ds text) ≡ Some k → ReadFault ds text want k
  unfolding name_kind
  read_found k e = by (declared_at ds (before_first is_dot text)) refl e
    where
      variable : (w : Declared) (j : Kind) → IsVariable w j → IsNameOf ds text w → read_name_fault want (declared_kind w (after_first is_dot text)) ≡ Some k → ReadFault ds text want k
      variable w j is at e' = variable_read w j k is at (after_first is_dot text) refl (ap (read_name_fault want) (sym (declared_variable w j (after_first is_dot text) is)) ∙ e')

      by : (o : Option Declared) → declared_at ds (before_first is_dot text) ≡ o → read_name_fault want (kind_if_declared o (after_first is_dot text)) ≡ Some k → ReadFault ds text want k
      by None at e' = read_as UnknownName k at e'
      by (Some (Input j)) at e' = variable (Input j) j refl at e'
      by (Some (Output j)) at e' = variable (Output j) j refl at e'
      by (Some (Local j)) at e' = variable (Local j) j refl at e'
      by (Some (Instance block)) at e' = instance_read block k at (after_first is_dot text) refl want refl e'

  variable_meant : (w : Declared) (j : Kind) (pin : List ℕ) → IsVariable w j → (pin ≡ [] → ⊥) → read_name_fault want (declared_kind w pin) ≡ Some WrongKind
  variable_meant w j [] is more = absurd (more refl)
  variable_meant w j (c ∷ pin) is more = ap (read_name_fault want) (declared_variable w j (c ∷ pin) is)

  value_meant : (j k : Kind) → (j ≡ k → ⊥) → read_name_fault (Some k) (Ok (Some j)) ≡ Some WrongKind
  value_meant j k ne = rw (differ_kinds j k ne) refl

  output_meant : (block : BlockType) (field : Field) (k : Kind) (pin : List ℕ) → pin_of block pin ≡ Some (output field) → (field_kind field ≡ k → ⊥)
      → read_name_fault (Some k) (declared_kind (Instance block) pin) ≡ Some WrongKind
  output_meant block field k [] has ne = absurd (nothing_found (sym (no_pin block) ∙ has))
  output_meant block field k (c ∷ pin) has ne = rw has (value_meant (field_kind field) k ne)

  lacking_meant : (block : BlockType) (pin : List ℕ) → (pin ≡ [] → ⊥) → ((field : Field) → pin_of block pin ≡ Some (output field) → ⊥) → read_name_fault want (declared_kind (Instance block) pin) ≡ Some UnknownPin
  lacking_meant block [] more never = absurd (more refl)
  lacking_meant block (c ∷ pin) more never = found (pin_of block (c ∷ pin)) refl
    where
      side : (left : Bool) (field : Field) → pin_of block (c ∷ pin) ≡ Some (record { left = left; field = field }) → read_name_fault want (output_kind (Some (record { left = left; field = field }))) ≡ Some UnknownPin
      side true field some = refl
      side false field some = absurd (never field some)

      found : (o : Option Pin) → pin_of block (c ∷ pin) ≡ o → read_name_fault want (output_kind o) ≡ Some UnknownPin
      found None none = refl
      found (Some p) some = side p.left p.field some

  -- a fault of reading a name is found
  pub read_meant : (k : BindKind) → ReadFault ds text want k → read_name_fault want (name_kind ds text) ≡ Some k
  unfolding name_kind
  read_meant UnknownName h = rw h refl
  read_meant WrongKind (reads_part w j at is more) = rw at (variable_meant w j (after_first is_dot text) is more)
  read_meant WrongKind (reads_instance block k at end wanted) = rw (at, end, wanted) refl
  read_meant WrongKind (reads_other j k (inl (w, at, is, end)) wanted ne) =
      let reads : read_name_fault (Some k) (declared_kind w []) ≡ Some WrongKind = ap (read_name_fault (Some k)) (declared_variable w j [] is) ∙ value_meant j k ne in
      rw (at, end, wanted) reads
  read_meant WrongKind (reads_other j k (inr (block, field, at, has, is)) wanted ne) =
      rw (at, wanted) (output_meant block field k (after_first is_dot text) has (λ same. ne (sym is ∙ same)))
  read_meant UnknownPin (block, at, more, never) = rw at (lacking_meant block (after_first is_dot text) more never)
  read_meant k h = absurd h

  store_as : (j k : BindKind) → StoreFault ds text want j → ◌≡◌ {A = Option BindKind} (Some j) (Some k) → StoreFault ds text want k
  store_as j k h e = subst (StoreFault ds text want) (some_same e) h

-- the kind is the one that is wanted, if one is
wanted_is : (want : Option Kind) (j : Kind) → wants want j ≡ true → (k : Kind) → want ≡ Some k → k ≡ j
wanted_is None j agrees k e = absurd (nothing_found e)
wanted_is (Some w) j agrees k e = sym (some_same e) ∙ kinds_agree w j agrees

is_wanted : (want : Option Kind) (j : Kind) → ((k : Kind) → want ≡ Some k → k ≡ j) → wants want j ≡ true
is_wanted None j h = refl
is_wanted (Some w) j h = ap (same_kind w) (sym (h w refl)) ∙ same_kind_refl w

not_wanted : (want : Option Kind) (j : Kind) → wants want j ≡ false → (k : Kind) × (want ≡ Some k) × (j ≡ k → ⊥)
not_wanted None j never = absurd (false≢true (sym never))
not_wanted (Some w) j never = (w, refl, kinds_differ j w never)

refuse_other : (want : Option Kind) (w : Declared) (j : Kind) → IsVariable w j → wants want j ≡ false → store_declared_fault want w ≡ Some WrongKind
refuse_other want (Input i) j is never = rw (ap (wants want) is ∙ never) refl
refuse_other want (Output i) j is never = rw (ap (wants want) is ∙ never) refl
refuse_other want (Local i) j is never = rw (ap (wants want) is ∙ never) refl
refuse_other want (Instance block) j is never = absurd is

module _ (ds : List Declaration) (text : List ℕ) (want : Option Kind) where
  -- what is found wrong with storing at a name is a fault
  pub store_found : (k : BindKind) → store_name_fault want (is_dotted text) (declared_at ds (before_first is_dot text)) ≡ Some k → StoreFault ds text want k
  store_found k e = by (declared_at ds (before_first is_dot text)) refl (is_dotted text) refl e
    where
      refused : (w : Declared) (j : Kind) → IsVariable w j → IsNameOf ds text w → wants want j ≡ false → ◌≡◌ {A = Option BindKind} (Some WrongKind) (Some k) → StoreFault ds text want k
      refused w j is at never e' = let x = not_wanted want j never in store_as ds text want WrongKind k (stores_other w j x.0 at is x.1 x.2) e'

      plain : (w : Declared) (j : Kind) → IsVariable w j → IsNameOf ds text w → (b : Bool) → wants want j ≡ b → ◌≡◌ {A = Option BindKind} (if b then None else Some WrongKind) (Some k) → StoreFault ds text want k
      plain w j is at true agrees e' = absurd (nothing_found e')
      plain w j is at false never e' = refused w j is at never e'

      input : (j : Kind) → IsNameOf ds text (Input j) → is_dotted text ≡ false → (b : Bool) → wants want j ≡ b → ◌≡◌ {A = Option BindKind} (if b then Some WritesInput else Some WrongKind) (Some k) → StoreFault ds text want k
      input j at whole true agrees e' = store_as ds text want WritesInput k (j, at, whole, wanted_is want j agrees) e'
      input j at whole false never e' = refused (Input j) j refl at never e'

      by : (o : Option Declared) → declared_at ds (before_first is_dot text) ≡ o → (d : Bool) → is_dotted text ≡ d → store_name_fault want d o ≡ Some k → StoreFault ds text want k
      by None at d dot e' = store_as ds text want UnknownName k at e'
      by (Some w) at true dot e' = store_as ds text want WrongKind k (stores_dotted w at dot) e'
      by (Some (Input j)) at false dot e' = input j at dot (wants want j) refl e'
      by (Some (Output j)) at false dot e' = plain (Output j) j refl at (wants want j) refl e'
      by (Some (Local j)) at false dot e' = plain (Local j) j refl at (wants want j) refl e'
      by (Some (Instance block)) at false dot e' = store_as ds text want WrongKind k (stores_instance block at) e'

  -- a fault of storing at a name is found
  pub store_meant : (k : BindKind) → StoreFault ds text want k → store_name_fault want (is_dotted text) (declared_at ds (before_first is_dot text)) ≡ Some k
  store_meant UnknownName h = rw h refl
  store_meant WrongKind (stores_dotted w at dot) = rw (at, dot) refl
  store_meant WrongKind (stores_instance block at) = rw at (go (is_dotted text))
    where
      go : (d : Bool) → store_name_fault want d (Some (Instance block)) ≡ Some WrongKind
      go true = refl
      go false = refl
  store_meant WrongKind (stores_other w j k at is wanted ne) =
      rw at (go (is_dotted text))
    where
      unwanted : wants want j ≡ false
      unwanted = rw wanted (differ_kinds j k ne)

      go : (d : Bool) → store_name_fault want d (Some w) ≡ Some WrongKind
      go true = refl
      go false = refuse_other want w j is unwanted
  store_meant WritesInput (j, at, whole, kinds) = rw (at, whole, is_wanted want j kinds) refl
  store_meant k h = absurd h

-- a coil stores a BOOL at a name
pub coil_stores : (dotted : Bool) (o : Option Declared) → fault_with write_fault (as_variable dotted o) ≡ store_name_fault (Some kind.Bool) dotted o
coil_stores dotted None = refl
coil_stores true (Some w) = refl
coil_stores false (Some (Input kind.Bool)) = refl
coil_stores false (Some (Input kind.Int)) = refl
coil_stores false (Some (Input kind.Time)) = refl
coil_stores false (Some (Output kind.Bool)) = refl
coil_stores false (Some (Output kind.Int)) = refl
coil_stores false (Some (Output kind.Time)) = refl
coil_stores false (Some (Local kind.Bool)) = refl
coil_stores false (Some (Local kind.Int)) = refl
coil_stores false (Some (Local kind.Time)) = refl
coil_stores false (Some (Instance block)) = refl

-- what is found wrong with a literal that is read is a fault
pub literal_found : (want : Option Kind) (v : Value) (k : BindKind) → literal_fault want v ≡ Some k → LiteralFault want v k
literal_found None v k e = absurd (nothing_found e)
literal_found (Some w) v k e = go (same_kind w (kind_of v)) refl (in_range v) refl e
  where
    go : (same : Bool) → same_kind w (kind_of v) ≡ same → (fits : Bool) → in_range v ≡ fits
        → ◌≡◌ {A = Option BindKind} (if same then (if fits then None else Some LiteralOutOfRange) else Some WrongKind) (Some k) → LiteralFault (Some w) v k
    go true same true fits e' = absurd (nothing_found e')
    go true same false fits e' = subst (LiteralFault (Some w) v) (some_same e') (ap Some (kinds_agree w (kind_of v) same), fits)
    go false same fits is e' = subst (LiteralFault (Some w) v) (some_same e') (w, refl, kinds_differ (kind_of v) w same)

-- a fault of a literal that is read is found
pub literal_meant : (want : Option Kind) (v : Value) (k : BindKind) → LiteralFault want v k → literal_fault want v ≡ Some k
literal_meant want v WrongKind (k, wanted, ne) = rw (wanted, differ_kinds (kind_of v) k ne) refl
literal_meant want v LiteralOutOfRange (wanted, never) = rw (wanted, same_kind_refl (kind_of v), never) refl
literal_meant want v k h = absurd h

stored_kind : (w : Declared) (k : Kind) → store_declared_fault (Some k) w ≡ None → IsVariable w k
stored_kind (Input j) k e = go (same_kind k j) e
  where
    go : (x : Bool) → ◌≡◌ {A = Option BindKind} (if x then Some WritesInput else Some WrongKind) None → j ≡ k
    go true e' = absurd (cc)
    go false e' = absurd (cc)
stored_kind (Output j) k e = go (same_kind k j) refl e
  where
    go : (x : Bool) → same_kind k j ≡ x → ◌≡◌ {A = Option BindKind} (if x then None else Some WrongKind) None → j ≡ k
    go true same e' = sym (kinds_agree k j same)
    go false same e' = absurd (cc)
stored_kind (Local j) k e = go (same_kind k j) refl e
  where
    go : (x : Bool) → same_kind k j ≡ x → ◌≡◌ {A = Option BindKind} (if x then None else Some WrongKind) None → j ≡ k
    go true same e' = sym (kinds_agree k j same)
    go false same e' = absurd (cc)
stored_kind (Instance block) k e = absurd (cc)

-- a name at which nothing is wrong with storing a value of a kind is that of a variable of this kind
pub stored_variable : (ds : List Declaration) (text : List ℕ) (k : Kind) → store_name_fault (Some k) (is_dotted text) (declared_at ds (before_first is_dot text)) ≡ None → IsDeclaredVariable ds text k
stored_variable ds text k e = by (is_dotted text) refl (declared_at ds (before_first is_dot text)) refl e
  where
    by : (dotted : Bool) → is_dotted text ≡ dotted → (o : Option Declared) → declared_at ds (before_first is_dot text) ≡ o → store_name_fault (Some k) dotted o ≡ None → IsDeclaredVariable ds text k
    by dotted dot None at e' = absurd (cc)
    by true dot (Some w) at e' = absurd (cc)
    by false dot (Some w) at e' = (w, ap (declared_at ds) (sym (no_dot text dot).0) ∙ at, stored_kind w k e')

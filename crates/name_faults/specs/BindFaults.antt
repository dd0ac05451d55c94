-- What can be wrong with the names, numbers and durations of a network: the faults kind by kind, each at its place.
use Rattle.std.specs.Prelude.{◌≡◌, ℕ, ◌+◌, ◌<◌, ◌⊎◌, List, [], Bool, true, Option, Some, None, if◌then◌else◌, nat_le, pos, negsuc, slice_get, Contains, IsTrue, IsFalse, Any}
use Rattle.std.specs.List.{before_first, after_first}
use Rattle.std_blocks.specs.declared.value.Value.{Value}
use Rattle.std_blocks.specs.declared.value.Value.TheVariants.{Bool as BoolValue, Int as IntValue, Time as TimeValue}
use Rattle.std_blocks.specs.declared.pin.Field.{Field}
use Rattle.std_blocks.specs.declared.pin.Field.TheVariants.{Bit}
use Rattle.std_blocks.specs.declared.pin.Pin.{Pin}
use Rattle.std_blocks.specs.declared.block_type.BlockType.{BlockType}
use Rattle.std_blocks.specs.Pins.{pin_of, output}
use Rattle.drawings.specs.declared.place.Place.{Place}
use Rattle.drawings.specs.declared.drawn_box.DrawnBox.{DrawnBox}
use Rattle.drawings.specs.declared.drawn_box.DrawnPin.{DrawnPin}
use Rattle.drawings.specs.declared.drawn_box.Operand.{Operand}
use Rattle.drawings.specs.declared.drawn_box.Side.{Side}
use Rattle.drawings.specs.declared.drawn_box.Side.TheVariants.{Left, Right}
use Rattle.network.specs.declared.element.Element.{Element}
use Rattle.network.specs.declared.element.Element.TheVariants.{Wire, Join, Upright, Contact, Coil, Box}
use Rattle.network.specs.Links.{place}
use Rattle.name_faults.specs.declared.bind_fault.BindKind.{BindKind}
use Rattle.name_faults.specs.declared.bind_fault.BindKind.TheVariants.{UnknownName, WrongKind, WritesInput, UnknownPin, PinMissing, LiteralOutOfRange, Memory}
use Rattle.declared_names.specs.declared.declarations.Declaration.{Declaration}
use Rattle.declared_names.specs.declared.declarations.Declared.{Declared}
use Rattle.declared_names.specs.declared.declarations.Declared.TheVariants.{Input, Output, Local, Instance}
use Rattle.declared_names.specs.declared.declarations.Kind.{Kind}
use Rattle.declared_names.specs.declared.declarations.Kind.TheVariants as kind
use Rattle.declared_names.specs.Names.{is_dot}
use Rattle.declared_names.specs.Kinds.{kind_of}
use Rattle.name_faults.specs.PinKinds.{field_kind, stands_on}
use Rattle.name_faults.specs.Literals.{literal_value}
use Rattle.name_faults.specs.Lookup.{declared_at, is_dotted}

-- an INT is at most 32767, a duration at most 2147483647 ms
abbrev pub in_range : Value → Bool
in_range (BoolValue on) = true
in_range (IntValue (pos n)) = nat_le n 32767
in_range (IntValue (negsuc n)) = nat_le n 32767
in_range (TimeValue t) = nat_le t 2147483647

-- the field of a pin of the type, if it stands on this side
abbrev pub field_on : Side → Option Pin → Option Field
field_on side None = None
field_on side (Some pin) = if stands_on side pin then Some pin.field else None

-- the field of a drawn pin, if the box's type has such a pin on that side
abbrev pub own_field : DrawnBox → DrawnPin → Option Field
own_field b pin = field_on pin.side (pin_of b.block pin.name)

-- the kind that is wanted at a pin: at one that the type doesn't have, none is
abbrev pub kind_at : Option Field → Option Kind
kind_at None = None
kind_at (Some field) = Some (field_kind field)

-- where a box is
abbrev pub corner : DrawnBox → Place
corner b = place b.top b.left

-- where a side of a box is on this row
abbrev pub side_place : DrawnBox → ℕ → Side → Place
side_place b row Left = place row b.left
side_place b row Right = place row b.right

-- a variable of this kind
abbrev pub IsVariable : Declared → Kind → Type 0
IsVariable (Input j) k = j ≡ k
IsVariable (Output j) k = j ≡ k
IsVariable (Local j) k = j ≡ k
IsVariable (Instance block) k = ⊥

-- the name, or the part before its dot, is declared as this
abbrev pub IsNameOf : List Declaration → List ℕ → Declared → Type 0
IsNameOf ds text w = declared_at ds (before_first is_dot text) ≡ Some w

-- the name, or the part before its dot, isn't declared
abbrev pub IsUndeclared : List Declaration → List ℕ → Type 0
IsUndeclared ds text = declared_at ds (before_first is_dot text) ≡ None

-- no part stands behind a dot
abbrev pub IsWhole : List ℕ → Type 0
IsWhole text = after_first is_dot text ≡ []

-- the name is that of a variable of this kind
abbrev pub IsVariableName : List Declaration → List ℕ → Kind → Type 0
IsVariableName ds text k = (w : Declared) × IsNameOf ds text w × IsVariable w k × IsWhole text

-- the name is that of an output pin of an instance, with values of this kind
abbrev pub IsOutputName : List Declaration → List ℕ → Kind → Type 0
IsOutputName ds text k = (block : BlockType) × (field : Field) × IsNameOf ds text (Instance block)
    × (pin_of block (after_first is_dot text) ≡ Some (output field)) × (field_kind field ≡ k)

-- A name that is declared can't be read where a value of a kind is wanted.
pub data CannotRead (ds : List Declaration) (text : List ℕ) (want : Option Kind) : Type 0 where
  -- behind the name of a variable a dot stands with a part
  reads_part : (w : Declared) (k : Kind) → IsNameOf ds text w → IsVariable w k → (IsWhole text → ⊥)
      → CannotRead ds text want
  -- it is the name of an instance
  reads_instance : (block : BlockType) (k : Kind) → IsNameOf ds text (Instance block) → IsWhole text
      → want ≡ Some k → CannotRead ds text want
  -- its value is of another kind
  reads_other : (j k : Kind) → IsVariableName ds text j ⊎ IsOutputName ds text j → want ≡ Some k → (j ≡ k → ⊥)
      → CannotRead ds text want

-- A name that is declared can't be stored at with a value of a kind.
pub data CannotStore (ds : List Declaration) (text : List ℕ) (want : Option Kind) : Type 0 where
  -- it has a dot
  stores_dotted : (w : Declared) → IsNameOf ds text w → IsTrue (is_dotted text) → CannotStore ds text want
  -- it is the name of an instance
  stores_instance : (block : BlockType) → IsNameOf ds text (Instance block) → CannotStore ds text want
  -- it is the name of a variable of another kind
  stores_other : (w : Declared) (j k : Kind) → IsNameOf ds text w → IsVariable w j → want ≡ Some k → (j ≡ k → ⊥)
      → CannotStore ds text want

-- the name is that of an input, of the kind that is stored
abbrev pub IsInputName : List Declaration → List ℕ → Option Kind → Type 0
IsInputName ds text want = (k : Kind) × IsNameOf ds text (Input k) × IsFalse (is_dotted text)
    × ((w : Kind) → want ≡ Some w → w ≡ k)

-- what stands behind the dot, after the name of an instance, isn't the name of an output pin of its type
abbrev pub LacksOutput : List Declaration → List ℕ → Type 0
LacksOutput ds text = (block : BlockType) × IsNameOf ds text (Instance block) × (IsWhole text → ⊥)
    × ((field : Field) → pin_of block (after_first is_dot text) ≡ Some (output field) → ⊥)

-- this text is the operand of a pin on this side of the box, at this place, where a value of this kind is wanted
pub record IsOperand (b : DrawnBox) (side : Side) (text : List ℕ) (want : Option Kind) (p : Place) : Type 0 where
  pub pin : DrawnPin
  pub operand : Operand
  pub drawn : Contains b.pins pin
  pub on : pin.side ≡ side
  pub stands : pin.operand ≡ Some operand
  pub text_is : operand.text ≡ text
  pub want_is : kind_at (own_field b pin) ≡ want
  pub place_is : place pin.row operand.column ≡ p

-- the element reads at this place the name of a value that is to be of this kind: a contact,
-- and an operand on the left of a box
abbrev pub Reads : Element → Place → List ℕ → Option Kind → Type 0
Reads (Wire at) p text want = ⊥
Reads (Join at) p text want = ⊥
Reads (Upright at) p text want = ⊥
Reads (Contact c) p text want = (c.name ≡ text) × (Some kind.Bool ≡ want) × (place c.row c.column ≡ p)
Reads (Coil c) p text want = ⊥
Reads (Box b) p text want = IsOperand b Left text want p × (literal_value text ≡ None)

-- the element stores a value of this kind at a name, at this place: a coil, and an operand on the right of a box
abbrev pub Stores : Element → Place → List ℕ → Option Kind → Type 0
Stores (Wire at) p text want = ⊥
Stores (Join at) p text want = ⊥
Stores (Upright at) p text want = ⊥
Stores (Contact c) p text want = ⊥
Stores (Coil c) p text want = (c.name ≡ text) × (Some kind.Bool ≡ want) × (place c.row c.column ≡ p)
Stores (Box b) p text want = IsOperand b Right text want p × (literal_value text ≡ None)

-- the element is a box of which this holds
abbrev pub IsBox : (DrawnBox → Type 0) → Element → Type 0
IsBox P (Wire at) = ⊥
IsBox P (Join at) = ⊥
IsBox P (Upright at) = ⊥
IsBox P (Contact c) = ⊥
IsBox P (Coil c) = ⊥
IsBox P (Box b) = P b

-- a number or a duration with this value is the operand of a pin on this side, where a value of this kind is wanted
abbrev pub HasLiteral : Side → Place → Value → Option Kind → Element → Type 0
HasLiteral side p v want e =
    IsBox (λ b. (text : List ℕ) × IsOperand b side text want p × (literal_value text ≡ Some v)) e

-- the pin k of a box is this one, and stands at p
abbrev pub IsPinAt : DrawnBox → ℕ → DrawnPin → Place → Type 0
IsPinAt b k pin p = (slice_get b.pins k ≡ Some pin) × (side_place b pin.row pin.side ≡ p)

-- a wire, a join or a symbol ends directly left of p
abbrev pub EndsBefore : Place → Element → Type 0
EndsBefore p (Wire at) = (at.row ≡ p.row) × (at.column + 1 ≡ p.column)
EndsBefore p (Join at) = (at.row ≡ p.row) × (at.column + 1 ≡ p.column)
EndsBefore p (Upright at) = ⊥
EndsBefore p (Contact c) = (c.row ≡ p.row) × (c.column + 3 ≡ p.column)
EndsBefore p (Coil c) = (c.row ≡ p.row) × (c.column + 3 ≡ p.column)
EndsBefore p (Box b) = ⊥

-- a wire, a join or a symbol begins directly right of p
abbrev pub BeginsBehind : Place → Element → Type 0
BeginsBehind p (Wire at) = (at.row ≡ p.row) × (at.column ≡ p.column + 1)
BeginsBehind p (Join at) = (at.row ≡ p.row) × (at.column ≡ p.column + 1)
BeginsBehind p (Upright at) = ⊥
BeginsBehind p (Contact c) = (c.row ≡ p.row) × (c.column ≡ p.column + 1)
BeginsBehind p (Coil c) = (c.row ≡ p.row) × (c.column ≡ p.column + 1)
BeginsBehind p (Box b) = ⊥

-- a wire, a join or a symbol of the network lies directly at this side of a box, outside
abbrev pub HasLine : List Element → Side → Place → Type 0
HasLine elements Left p = Any (EndsBefore p) elements
HasLine elements Right p = Any (BeginsBehind p) elements

-- a box is named by what isn't declared
abbrev pub IsNamedByNone : List Declaration → Place → DrawnBox → Type 0
IsNamedByNone ds p b = (corner b ≡ p) × (declared_at ds b.instance ≡ None)

-- a box's name is declared, and not as an instance of its type
abbrev pub IsNamedOtherwise : List Declaration → Place → DrawnBox → Type 0
IsNamedOtherwise ds p b = (w : Declared) × (corner b ≡ p) × (declared_at ds b.instance ≡ Some w)
    × (w ≡ Instance b.block → ⊥)

-- a line lies at an INT or TIME pin of a box
abbrev pub HasLinedPin : List Element → Place → DrawnBox → Type 0
HasLinedPin elements p b = (k : ℕ) × (pin : DrawnPin) × (field : Field) × IsPinAt b k pin p
    × (own_field b pin ≡ Some field) × (field_kind field ≡ kind.Bool → ⊥) × HasLine elements pin.side p

-- a pin is drawn that the box's type doesn't have on that side
abbrev pub HasForeignPin : Place → DrawnBox → Type 0
HasForeignPin p b = (k : ℕ) × (pin : DrawnPin) × IsPinAt b k pin p × (own_field b pin ≡ None)

-- a pin is drawn that is the same pin of the type as one drawn before it
abbrev pub HasSecondPin : Place → DrawnBox → Type 0
HasSecondPin p b = (j k : ℕ) × (earlier pin : DrawnPin) × (found : Pin) × (j < k)
    × (slice_get b.pins j ≡ Some earlier) × IsPinAt b k pin p
    × (pin_of b.block earlier.name ≡ Some found) × (pin_of b.block pin.name ≡ Some found)

-- on this side of a box no Boolean pin of its type is drawn
abbrev pub LacksBit : Place → Side → DrawnBox → Type 0
LacksBit p side b = (corner b ≡ p)
    × ((pin : DrawnPin) (n : ℕ) → Contains b.pins pin → pin.side ≡ side → own_field b pin ≡ Some (Bit n) → ⊥)

-- UnknownName: a name is read or stored at that isn't declared, or a box is named by it.
pub data IsUnknownName (ds : List Declaration) (e : Element) (p : Place) : Type 0 where
  unknown_read : (text : List ℕ) (want : Option Kind) → Reads e p text want → IsUndeclared ds text
      → IsUnknownName ds e p
  unknown_stored : (text : List ℕ) (want : Option Kind) → Stores e p text want → IsUndeclared ds text
      → IsUnknownName ds e p
  unknown_box : IsBox (IsNamedByNone ds p) e → IsUnknownName ds e p

-- WrongKind: what is declared, or a literal, is of another kind than is wanted; a line lies at an INT or TIME pin;
-- a box's name is declared otherwise.
pub data IsWrongKind (ds : List Declaration) (elements : List Element) (e : Element) (p : Place) : Type 0 where
  wrong_read : (text : List ℕ) (want : Option Kind) → Reads e p text want → CannotRead ds text want
      → IsWrongKind ds elements e p
  wrong_stored : (text : List ℕ) (want : Option Kind) → Stores e p text want → CannotStore ds text want
      → IsWrongKind ds elements e p
  wrong_literal : (v : Value) (k : Kind) → HasLiteral Left p v (Some k) e → (kind_of v ≡ k → ⊥)
      → IsWrongKind ds elements e p
  literal_stored : (v : Value) (want : Option Kind) → HasLiteral Right p v want e → IsWrongKind ds elements e p
  wrong_line : IsBox (HasLinedPin elements p) e → IsWrongKind ds elements e p
  wrong_box : IsBox (IsNamedOtherwise ds p) e → IsWrongKind ds elements e p

-- WritesInput: a coil or an operand on the right stores at an input of the kind that it stores.
abbrev pub IsWritesInput : List Declaration → Element → Place → Type 0
IsWritesInput ds e p = (text : List ℕ) × (want : Option Kind) × Stores e p text want × IsInputName ds text want

-- UnknownPin: a pin of a box that its type doesn't have there, or that is drawn twice,
-- or a name that is read as an output pin of an instance that its type doesn't have.
pub data IsUnknownPin (ds : List Declaration) (e : Element) (p : Place) : Type 0 where
  unknown_output : (text : List ℕ) (want : Option Kind) → Reads e p text want → LacksOutput ds text
      → IsUnknownPin ds e p
  foreign_pin : IsBox (HasForeignPin p) e → IsUnknownPin ds e p
  second_pin : IsBox (HasSecondPin p) e → IsUnknownPin ds e p

-- PinMissing: a box without a Boolean pin on its left or on its right.
abbrev pub IsPinMissing : Element → Place → Type 0
IsPinMissing e p = (side : Side) × IsBox (LacksBit p side) e

-- LiteralOutOfRange: a number or a duration of the kind that is wanted, out of its range.
abbrev pub IsOutOfRange : Element → Place → Type 0
IsOutOfRange e p = (v : Value) × HasLiteral Left p v (Some (kind_of v)) e × IsFalse (in_range v)

-- the element of the network has a fault of this kind at this place
abbrev pub IsFaultOf : List Declaration → List Element → BindKind → Element → Place → Type 0
IsFaultOf ds elements UnknownName e p = IsUnknownName ds e p
IsFaultOf ds elements WrongKind e p = IsWrongKind ds elements e p
IsFaultOf ds elements WritesInput e p = IsWritesInput ds e p
IsFaultOf ds elements UnknownPin e p = IsUnknownPin ds e p
IsFaultOf ds elements PinMissing e p = IsPinMissing e p
IsFaultOf ds elements LiteralOutOfRange e p = IsOutOfRange e p
IsFaultOf ds elements Memory e p = ⊥

-- some element of the network has a fault of this kind at this place
abbrev pub IsFaultIn : List Declaration → List Element → BindKind → Place → Type 0
IsFaultIn ds elements k p = Any (λ e. IsFaultOf ds elements k e p) elements

-- The faults of a box as the bodies find them: of its corner, and of each pin.
use Rattle.std.specs.Prelude.{◌≡◌, ℕ, ◌+◌, List, [], ◌∷◌, Bool, true, false, Option, Some, None, Result, Ok, Err, if◌then◌else◌, All, ◌==◌, ◌&&◌, ◌++◌, ◌-◌, not, nat_lt, take}
use Rattle.std.specs.List.{before_first, after_first, list_any}
use Rattle.std_blocks.specs.declared.value.Value.{Value}
use Rattle.std_blocks.specs.declared.pin.Field.{Field}
use Rattle.std_blocks.specs.declared.pin.Field.TheVariants.{Bit, Int, Time}
use Rattle.std_blocks.specs.declared.pin.Pin.{Pin}
use Rattle.std_blocks.specs.declared.block_type.BlockType.{BlockType}
use Rattle.std_blocks.specs.declared.block_type.BlockType.TheVariants as type
use Rattle.name_faults.specs.declared.finding.Finding.{Finding}
use Rattle.std_blocks.specs.Pins.{pin_of}
use Rattle.drawings.specs.declared.place.Place.{Place}
use Rattle.drawings.specs.declared.drawn_box.DrawnBox.{DrawnBox}
use Rattle.drawings.specs.declared.drawn_box.DrawnPin.{DrawnPin}
use Rattle.drawings.specs.declared.drawn_box.Operand.{Operand}
use Rattle.drawings.specs.declared.drawn_box.Side.{Side}
use Rattle.drawings.specs.declared.drawn_box.Side.TheVariants.{Left, Right}
use Rattle.network.specs.declared.element.Element.{Element}
use Rattle.network.specs.declared.element.Element.TheVariants.{Wire, Join, Upright, Contact, Coil, Box}
use Rattle.network.specs.Links.{place}
use Rattle.name_faults.specs.declared.bind_fault.BindKind.{BindKind}
use Rattle.name_faults.specs.declared.bind_fault.BindKind.TheVariants.{UnknownName, WrongKind, WritesInput, UnknownPin, PinMissing, LiteralOutOfRange}
use Rattle.declared_names.specs.declared.declarations.Declaration.{Declaration}
use Rattle.declared_names.specs.declared.declarations.Declared.{Declared}
use Rattle.declared_names.specs.declared.declarations.Declared.TheVariants as declared
use Rattle.declared_names.specs.declared.declarations.Kind.{Kind}
use Rattle.declared_names.specs.declared.declarations.Kind.TheVariants as kind
use Rattle.name_faults.specs.declared.literal.Literal.{Literal}
use Rattle.name_faults.specs.declared.literal.Literal.TheVariants as literal
use Rattle.declared_names.specs.Names.{is_dot}
use Rattle.declared_names.specs.Kinds.{kind_of}
use Rattle.name_faults.specs.PinKinds.{field_kind}
use Rattle.name_faults.specs.Literals.{literal_value}
use Rattle.name_faults.specs.Lookup.{declared_at, is_dotted}
pub use Rattle.name_faults.specs.BindFaults.{in_range, field_on, own_field, kind_at, corner, side_place}

-- two kinds are one
abbrev pub same_kind : Kind → Kind → Bool
same_kind kind.Bool kind.Bool = true
same_kind kind.Int kind.Int = true
same_kind kind.Time kind.Time = true
same_kind k l = false

-- the kind that is wanted, if any
abbrev pub wants : Option Kind → Kind → Bool
wants None k = true
wants (Some w) k = same_kind w k

-- what an operand is by itself
abbrev pub literal_of : Option Value → Literal
literal_of None = literal.Absent
literal_of (Some v) = if in_range v then literal.Value v else literal.TooLarge (kind_of v)

-- the kind of an output pin after a dot; any other name there is no pin of the instance
abbrev pub output_kind : Option Pin → Result (Option Kind) BindKind
output_kind None = Err UnknownPin
output_kind (Some pin) = if pin.left then Err UnknownPin else Ok (Some (field_kind pin.field))

-- the kind of the value at a name: that of a variable, or of an output after a dot. A block itself has none,
-- and after a variable's name no dot may stand
abbrev pub declared_kind : Declared → List ℕ → Result (Option Kind) BindKind
declared_kind (declared.Input k) [] = Ok (Some k)
declared_kind (declared.Input k) (c ∷ pin) = Err WrongKind
declared_kind (declared.Output k) [] = Ok (Some k)
declared_kind (declared.Output k) (c ∷ pin) = Err WrongKind
declared_kind (declared.Local k) [] = Ok (Some k)
declared_kind (declared.Local k) (c ∷ pin) = Err WrongKind
declared_kind (declared.Instance b) [] = Ok None
declared_kind (declared.Instance b) (c ∷ pin) = output_kind (pin_of b (c ∷ pin))

-- the kind of the value at a name, of which this is declared at its first part
abbrev pub kind_if_declared : Option Declared → List ℕ → Result (Option Kind) BindKind
kind_if_declared None pin = Err UnknownName
kind_if_declared (Some w) pin = declared_kind w pin

-- the kind of the value at a name, or what is wrong with the name by itself
unfoldable pub name_kind : List Declaration → List ℕ → Result (Option Kind) BindKind
name_kind ds name = kind_if_declared (declared_at ds (before_first is_dot name)) (after_first is_dot name)

-- what is wrong with reading a name where a kind is wanted; where none is wanted, only what is wrong by itself
abbrev pub read_name_fault : Option Kind → Result (Option Kind) BindKind → Option BindKind
read_name_fault want (Err fault) = Some fault
read_name_fault None (Ok found) = None
read_name_fault (Some w) (Ok None) = Some WrongKind
read_name_fault (Some w) (Ok (Some k)) = if same_kind w k then None else Some WrongKind

-- what is wrong with a literal where a kind is wanted: its kind, and only then its range
abbrev pub literal_kind_fault : Option Kind → Kind → Bool → Option BindKind
literal_kind_fault None k fits = None
literal_kind_fault (Some w) k fits =
    if same_kind w k then (if fits then None else Some LiteralOutOfRange) else Some WrongKind

-- what is wrong with this literal where a kind is wanted
abbrev pub literal_fault : Option Kind → Value → Option BindKind
literal_fault want v = literal_kind_fault want (kind_of v) (in_range v)

-- what is wrong with reading a literal, or else a name
abbrev pub read_fault_by : Option Kind → Option Value → Result (Option Kind) BindKind → Option BindKind
read_fault_by want (Some v) name = literal_fault want v
read_fault_by want None name = read_name_fault want name

-- what is wrong with reading an operand
unfoldable pub read_fault_at : List Declaration → Option Kind → List ℕ → Option BindKind
read_fault_at ds want text = read_fault_by want (literal_value text) (name_kind ds text)

-- what is wrong with storing where this is declared
abbrev pub store_declared_fault : Option Kind → Declared → Option BindKind
store_declared_fault want (declared.Input k) = if wants want k then Some WritesInput else Some WrongKind
store_declared_fault want (declared.Output k) = if wants want k then None else Some WrongKind
store_declared_fault want (declared.Local k) = if wants want k then None else Some WrongKind
store_declared_fault want (declared.Instance b) = Some WrongKind

-- what is wrong with storing at a name, dotted or not, of which this is declared at its first part
abbrev pub store_name_fault : Option Kind → Bool → Option Declared → Option BindKind
store_name_fault want dotted None = Some UnknownName
store_name_fault want dotted (Some w) = if dotted then Some WrongKind else store_declared_fault want w

-- what is wrong with storing at a literal, or else at a name
abbrev pub store_fault_by : Option Kind → Option Value → Option BindKind → Option BindKind
store_fault_by want (Some v) name = Some WrongKind
store_fault_by want None name = name

-- what is wrong with storing at a name
abbrev pub stored_name_fault : List Declaration → Option Kind → List ℕ → Option BindKind
stored_name_fault ds want text = store_name_fault want (is_dotted text) (declared_at ds (before_first is_dot text))

-- what is wrong with storing at an operand
unfoldable pub store_fault_at : List Declaration → Option Kind → List ℕ → Option BindKind
store_fault_at ds want text = store_fault_by want (literal_value text) (stored_name_fault ds want text)

-- an operand on the left is read, on the right it stores
abbrev pub operand_fault : List Declaration → Side → Option Kind → List ℕ → Option BindKind
operand_fault ds Left want text = read_fault_at ds want text
operand_fault ds Right want text = store_fault_at ds want text

-- a fault at a place, if there is one
abbrev pub fault_here : Option BindKind → Place → Option Finding
fault_here None p = None
fault_here (Some kind) p = Some (record { kind = kind; row = p.row; column = p.column })

-- a fault where something is wrong
abbrev pub fault_if : Bool → BindKind → Option BindKind
fault_if b kind = if b then Some kind else None

-- the types by number
abbrev pub type_number : BlockType → ℕ
type_number type.SR = 0
type_number type.RS = 1
type_number type.CTU = 2
type_number type.CTD = 3
type_number type.CTUD = 4
type_number type.TP = 5
type_number type.TON = 6
type_number type.TOF = 7

-- a box's name is that of an instance of its type
abbrev pub instance_fault : BlockType → Option Declared → Option BindKind
instance_fault block None = Some UnknownName
instance_fault block (Some (declared.Input k)) = Some WrongKind
instance_fault block (Some (declared.Output k)) = Some WrongKind
instance_fault block (Some (declared.Local k)) = Some WrongKind
instance_fault block (Some (declared.Instance b)) = if type_number b == type_number block then None else Some WrongKind

-- two sides are one
abbrev pub same_side : Side → Side → Bool
same_side Left Left = true
same_side Left Right = false
same_side Right Left = false
same_side Right Right = true

-- the field of a pin is Boolean
abbrev pub is_bit : Option Field → Bool
is_bit None = false
is_bit (Some (Bit k)) = true
is_bit (Some Int) = false
is_bit (Some Time) = false

-- a Boolean pin of the type is drawn on this side
unfoldable pub has_bit : DrawnBox → Side → Bool
has_bit b side = list_any (λ pin. same_side side pin.side && is_bit (own_field b pin)) b.pins

-- two fields are one
abbrev pub same_field : Field → Field → Bool
same_field (Bit j) (Bit k) = j == k
same_field Int Int = true
same_field Time Time = true
same_field f g = false

-- two pins are one pin of the type
abbrev pub same_pin : Option Pin → Option Pin → Bool
same_pin None found = false
same_pin (Some pin) None = false
same_pin (Some pin) (Some other) = (if pin.left then other.left else not other.left) && same_field pin.field other.field

-- one of these pins is the same pin of the type
unfoldable pub is_among : BlockType → List DrawnPin → List ℕ → Bool
is_among block pins name = list_any (λ p. same_pin (pin_of block p.name) (pin_of block name)) pins

-- a pin that the type doesn't have on that side, or that is drawn before
abbrev pub pin_fault : Option Field → Bool → Option BindKind
pin_fault None twice = Some UnknownPin
pin_fault (Some field) twice = fault_if twice UnknownPin

-- an operand that can't be read or stored at
abbrev pub operand_finding : List Declaration → DrawnBox → DrawnPin → Option Operand → Option Finding
operand_finding ds b pin None = None
operand_finding ds b pin (Some o) =
    fault_here (operand_fault ds pin.side (kind_at (own_field b pin)) o.text) (place pin.row o.column)

-- a wire, a join or a symbol directly beside a side of the box on this row
abbrev pub is_beside : DrawnBox → ℕ → Side → Element → Bool
is_beside b row Left (Wire at) = at.row == row && nat_lt at.column b.left && (b.left - at.column == 1)
is_beside b row Left (Join at) = at.row == row && nat_lt at.column b.left && (b.left - at.column == 1)
is_beside b row Left (Upright at) = false
is_beside b row Left (Contact c) = c.row == row && nat_lt c.column b.left && (b.left - c.column == 3)
is_beside b row Left (Coil c) = c.row == row && nat_lt c.column b.left && (b.left - c.column == 3)
is_beside b row Left (Box a) = false
is_beside b row Right (Wire at) = at.row == row && nat_lt b.right at.column && (at.column - b.right == 1)
is_beside b row Right (Join at) = at.row == row && nat_lt b.right at.column && (at.column - b.right == 1)
is_beside b row Right (Upright at) = false
is_beside b row Right (Contact c) = c.row == row && nat_lt b.right c.column && (c.column - b.right == 1)
is_beside b row Right (Coil c) = c.row == row && nat_lt b.right c.column && (c.column - b.right == 1)
is_beside b row Right (Box a) = false

-- a line lies directly beside the pin's side of the box, on its row
unfoldable pub has_line : List Element → DrawnBox → DrawnPin → Bool
has_line elements b pin = list_any (is_beside b pin.row pin.side) elements

-- a line at an INT or TIME pin
abbrev pub line_fault : Option Field → Bool → Option BindKind
line_fault None line = None
line_fault (Some (Bit k)) line = None
line_fault (Some Int) line = fault_if line WrongKind
line_fault (Some Time) line = fault_if line WrongKind

-- the faults of the pin k: at its side, of its operand, and of a line at it
unfoldable pub pin_findings : List Declaration → List Element → DrawnBox → ℕ → DrawnPin → List (Option Finding)
pin_findings ds elements b k pin =
    fault_here (pin_fault (own_field b pin) (is_among b.block (take k b.pins) pin.name)) (side_place b pin.row pin.side)
    ∷ operand_finding ds b pin pin.operand
    ∷ fault_here (line_fault (own_field b pin) (has_line elements b pin)) (side_place b pin.row pin.side)
    ∷ []

-- the faults of a box at its corner: of its name, and where it has no Boolean pin on a side
unfoldable pub corner_findings : List Declaration → DrawnBox → List (Option Finding)
corner_findings ds b =
    fault_here (instance_fault b.block (declared_at ds b.instance)) (corner b)
    ∷ fault_here (fault_if (not (has_bit b Left)) PinMissing) (corner b)
    ∷ fault_here (fault_if (not (has_bit b Right)) PinMissing) (corner b)
    ∷ []

-- the faults of the first n pins
abbrev pub pins_findings : List Declaration → List Element → DrawnBox → ℕ → List DrawnPin → List (Option Finding)
pins_findings ds elements b k [] = []
pins_findings ds elements b k (pin ∷ pins) =
    pin_findings ds elements b k pin ++ pins_findings ds elements b (k + 1) pins

-- the faults of a box, each with its kind and place
unfoldable pub box_findings : List Declaration → List Element → DrawnBox → List (Option Finding)
box_findings ds elements b = corner_findings ds b ++ pins_findings ds elements b 0 b.pins

-- nothing was found wrong with a box
abbrev pub IsFaultlessBox : List Declaration → List Element → DrawnBox → Type 0
IsFaultlessBox ds elements b = All (λ o. o ≡ None) (box_findings ds elements b)

-- What is known of a network whose names are in order.
use Rattle.std.specs.Prelude.{◌≡◌, ℕ, List, Some, Contains, slice_get, true}
use Rattle.std_blocks.specs.declared.value.Value.{Value}
use Rattle.std_blocks.specs.declared.pin.Field.{Field}
use Rattle.std_blocks.specs.declared.pin.Pin.{Pin}
use Rattle.std_blocks.specs.declared.block_type.BlockType.{BlockType}
use Rattle.std_blocks.specs.Pins.{pin_of, output}
use Rattle.drawings.specs.Symbols.{Coil as DrawnCoil}
use Rattle.drawings.specs.declared.drawn_box.DrawnBox.{DrawnBox}
use Rattle.drawings.specs.declared.drawn_box.DrawnPin.{DrawnPin}
use Rattle.drawings.specs.declared.drawn_box.Operand.{Operand}
use Rattle.drawings.specs.declared.drawn_box.Side.TheVariants.{Right}
use Rattle.network.specs.declared.element.Element.{Element}
use Rattle.network.specs.declared.element.Element.TheVariants.{Coil, Box}
use Rattle.declared_names.specs.declared.declarations.Declaration.{Declaration}
use Rattle.declared_names.specs.declared.declarations.Declared.{Declared}
use Rattle.declared_names.specs.declared.declarations.Declared.TheVariants as declared
use Rattle.declared_names.specs.declared.declarations.Kind.{Kind}
use Rattle.declared_names.specs.declared.declarations.Kind.TheVariants as kind
use Rattle.name_faults.specs.PinKinds.{field_kind}
use Rattle.name_faults.specs.Literals.{literal_value}
use Rattle.name_faults.specs.Lookup.{declared_at}
use Rattle.name_faults.specs.BindFaults.{in_range, IsVariable}

-- no pin of its type is drawn twice
abbrev pub IsDrawnOnce : DrawnBox → BlockType → Type 0
IsDrawnOnce b block = (i j : ℕ) (p q : DrawnPin) (pin : Pin) → slice_get b.pins i ≡ Some p → slice_get b.pins j ≡ Some q
    → pin_of block p.name ≡ Some pin → pin_of block q.name ≡ Some pin → i ≡ j

-- what is drawn on the right are outputs
abbrev pub AreOutputs : DrawnBox → BlockType → Type 0
AreOutputs b block = (pin : DrawnPin) → Contains b.pins pin → pin.side ≡ Right
    → (field : Field) × (pin_of block pin.name ≡ Some (output field))

-- a literal is in its range
abbrev pub IsInRange : List ℕ → Type 0
IsInRange text = (v : Value) → literal_value text ≡ Some v → in_range v ≡ true

-- each literal at a pin of the box is in its range
abbrev pub AreInRange : DrawnBox → Type 0
AreInRange b = (pin : DrawnPin) (o : Operand) → Contains b.pins pin → pin.operand ≡ Some o → IsInRange o.text

-- a variable of this kind is declared by the name
abbrev pub IsDeclaredVariable : (ds : List Declaration) (name : List ℕ) → Kind → Type 0
IsDeclaredVariable ds name k = (w : Declared) × (declared_at ds name ≡ Some w) × IsVariable w k

-- what is stored at an operand goes to a variable of the pin's kind
abbrev pub AreStored : List Declaration → DrawnBox → Type 0
AreStored ds b = (pin : DrawnPin) (o : Operand) (field : Field) → Contains b.pins pin → pin.side ≡ Right
    → pin.operand ≡ Some o
    → pin_of b.block pin.name ≡ Some (output field) → IsDeclaredVariable ds o.text (field_kind field)

-- the facts that the table of a box needs
pub record IsNamedBox (ds : List Declaration) (b : DrawnBox) : Type 0 where
  pub instance : declared_at ds b.instance ≡ Some (declared.Instance b.block)
  pub once : IsDrawnOnce b b.block
  pub outputs : AreOutputs b b.block
  pub literals : AreInRange b
  pub stored : AreStored ds b

-- the facts that a scan of a network needs
pub record AreNamed (ds : List Declaration) (elements : List Element) : Type 0 where
  pub boxes : (b : DrawnBox) → Contains elements (Box b) → IsNamedBox ds b
  pub coils : (c : DrawnCoil) → Contains elements (Coil c) → IsDeclaredVariable ds c.name kind.Bool

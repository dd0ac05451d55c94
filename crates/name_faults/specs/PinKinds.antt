use Rattle.std.specs.Prelude.{Bool, true, false, if◌then◌else◌}
use Rattle.std.specs.Option.{option_map_or}
use Rattle.std_blocks.specs.declared.block_type.BlockType.{BlockType}
use Rattle.std_blocks.specs.declared.pin.Field.{Field}
use Rattle.std_blocks.specs.declared.pin.Field.TheVariants as field
use Rattle.std_blocks.specs.declared.pin.Pin.{Pin}
use Rattle.std_blocks.specs.Pins.{pin_of}
use Rattle.drawings.specs.declared.drawn_box.Side.{Side}
use Rattle.drawings.specs.declared.drawn_box.Side.TheVariants.{Left, Right}
use Rattle.drawings.specs.declared.drawn_box.DrawnPin.{DrawnPin}
use Rattle.declared_names.specs.declared.declarations.Kind.{Kind}
use Rattle.declared_names.specs.declared.declarations.Kind.TheVariants as kind

-- the kind of the values at a pin
abbrev pub field_kind : Field → Kind
field_kind (field.Bit k) = kind.Bool
field_kind field.Int = kind.Int
field_kind field.Time = kind.Time

-- inputs stand on the left side, outputs on the right
abbrev pub stands_on : Side → Pin → Bool
stands_on Left pin = pin.left
stands_on Right pin = if pin.left then false else true

-- the kind of a pin of the type on this side: BOOL if it stands on the other
abbrev pub kind_on : Side → Pin → Kind
kind_on side found = if stands_on side found then field_kind found.field else kind.Bool

-- the kind of a drawn pin: BOOL if its type has no such pin on that side
abbrev pub pin_kind : BlockType → DrawnPin → Kind
pin_kind block pin = option_map_or (kind_on pin.side) (pin_of block pin.name) kind.Bool

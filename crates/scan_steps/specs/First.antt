use Rattle.std.specs.Prelude.{◌∷◌, [], false, pos}
use Rattle.std_blocks.specs.declared.block_type.BlockType.{BlockType}
use Rattle.std_blocks.specs.Blocks.{initial}
use Rattle.declared_names.specs.Kinds.{value_first}
use Rattle.declared_names.specs.declared.declarations.Declared.{Declared}
use Rattle.declared_names.specs.declared.declarations.Declared.TheVariants.{Input, Output, Local, Instance}
use Rattle.scan_steps.specs.declared.slot.Instance.{Instance as InstanceRecord}
use Rattle.scan_steps.specs.declared.slot.Slot.{Slot}
use Rattle.scan_steps.specs.declared.slot.Slot.TheVariants.{Variable, Block}

-- a block before its first step: its outputs are OFF, 0 and T#0ms
abbrev pub instance_first : BlockType → InstanceRecord
instance_first b = record { state = initial b; outputs = record { bits = false ∷ false ∷ []; int = pos 0; time = 0 } }

-- what stands at a name before the first scan
abbrev pub slot_first : Declared → Slot
slot_first (Input k) = Variable (value_first k)
slot_first (Output k) = Variable (value_first k)
slot_first (Local k) = Variable (value_first k)
slot_first (Instance b) = Block (instance_first b)

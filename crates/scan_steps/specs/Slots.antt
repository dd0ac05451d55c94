-- What stands at declared names: variables with their values, and blocks.
use Rattle.std.specs.Prelude.{◌≡◌, ℕ, List, Option, Some, None, length, slice_get}
use Rattle.std.specs.Option.{option_and_then}
use Rattle.std_blocks.specs.declared.value.Value.{Value}
use Rattle.declared_names.specs.Kinds.{kind_of}
use Rattle.declared_names.specs.declared.declarations.Declared.{Declared}
use Rattle.declared_names.specs.declared.declarations.Declared.TheVariants.{Input, Output, Local, Instance}
use Rattle.declared_names.specs.declared.declarations.Declaration.{Declaration}
use Rattle.scan_steps.specs.declared.slot.Slot.{Slot}
use Rattle.scan_steps.specs.declared.slot.Slot.TheVariants.{Variable, Block}

-- the value of a slot, if a variable stands there
abbrev pub variable_of : Slot → Option Value
variable_of (Variable v) = Some v
variable_of (Block b) = None

-- the value of the variable at a place
abbrev pub variable_at : List Slot → ℕ → Option Value
variable_at slots place = option_and_then variable_of (slice_get slots place)

-- there is a variable at the place, of the value's kind
abbrev pub IsKindAt : List Slot → ℕ → Value → Type 0
IsKindAt slots place value = (v : Value) × (variable_at slots place ≡ Some v) × (kind_of v ≡ kind_of value)

-- what stands there is what is declared: a variable of the kind, or a block of the type
abbrev pub IsSlotOf : Declared → Slot → Type 0
IsSlotOf (Input k) (Variable v) = kind_of v ≡ k
IsSlotOf (Output k) (Variable v) = kind_of v ≡ k
IsSlotOf (Local k) (Variable v) = kind_of v ≡ k
IsSlotOf (Instance b) (Variable v) = ⊥
IsSlotOf (Input k) (Block i) = ⊥
IsSlotOf (Output k) (Block i) = ⊥
IsSlotOf (Local k) (Block i) = ⊥
IsSlotOf (Instance b) (Block i) = i.state.block ≡ b

-- at each declared name stands what is declared
pub record AreSlotsOf (ds : List Declaration) (slots : List Slot) : Type 0 where
  pub long : length slots ≡ length ds
  pub each : (k : ℕ) (e : Declaration) (s : Slot) → slice_get ds k ≡ Some e → slice_get slots k ≡ Some s
      → IsSlotOf e.declared s

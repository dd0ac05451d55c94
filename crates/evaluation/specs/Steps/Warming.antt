-- Where a retained variable can have a value.
use Rattle.std.specs.Prelude.{◌≡◌, Some, slice_get}
use Rattle.std_blocks.specs.declared.value.Value.{Value}
use Rattle.scan_steps.specs.Slots.{IsKindAt}
use Rattle.power_flow.specs.StateValue.{StateValue}
use Rattle.task_codes.specs.declared.retained_variable.RetainedVariable.{RetainedVariable}
use Rattle.std.specs.Prelude.{List}

-- the program's state is there, and has a variable of the value's kind at the place
abbrev pub HasPlace : List StateValue → RetainedVariable → Value → Type 0
HasPlace states v value =
    (s : StateValue) × (slice_get states v.program ≡ Some s) × IsKindAt s.slots v.place value

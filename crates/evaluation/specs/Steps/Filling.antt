-- When the bound inputs of a program can be filled.
use Rattle.std.specs.Prelude.{◌≡◌, ℕ, List, Some, slice_get}
use Rattle.std_blocks.specs.declared.value.Value.{Value}
use Rattle.scan_steps.specs.declared.slot.Slot.{Slot}
use Rattle.scan_steps.specs.Slots.{IsKindAt}
use Rattle.task_codes.specs.declared.binding.Binding.{Binding}
use Rattle.evaluation.specs.declared.field_input.FieldInput.{FieldInput}
use Rattle.evaluation.specs.declared.take.Take.{Take}
use Rattle.evaluation.specs.Meaning.{given}

-- each source gives a value of the kind that stands at the place of its input
abbrev pub AreReady : List FieldInput → List Take → List Binding → List Slot → Type 0
AreReady inputs takes bindings slots =
    (j : ℕ) (b : Binding) → slice_get bindings j ≡ Some b
    → (v : Value) × (given inputs takes b.source ≡ Some v) × IsKindAt slots b.place v

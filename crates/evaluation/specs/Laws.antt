-- What follows from the definitions.
use Rattle.std.specs.Prelude.{◌≡◌, ℕ, List}
use Rattle.std_blocks.specs.declared.value.Value.{Value}
use Rattle.power_flow.specs.StateValue.{StateValue}
use Rattle.task_codes.specs.CodeValue.{CodeValue}
use Rattle.evaluation.specs.declared.field_input.FieldInput.{FieldInput}
use Rattle.evaluation.specs.declared.name.Name.{Name}
use Rattle.evaluation.specs.declared.take.Take.{Take}
use Rattle.evaluation.specs.Meaning.{Evaluated, Means, IsAsked}
use Rattle.evaluation.specs.States.{AreSame}

-- the task meaning has one result: from the same values, blocks and memories come the same outputs, and the same
-- values, blocks and memories stay
abbrev pub OneMeaning : Type 0
OneMeaning =
    (c : CodeValue) (inputs : List FieldInput) (takes : List Take) (dt : ℕ)
    (before before2 : List StateValue) (outputs outputs2 : List Value) (after after2 : List StateValue)
    → AreSame before before2 → Means c inputs takes dt before outputs after
    → Means c inputs takes dt before2 outputs2 after2 → (outputs ≡ outputs2) × AreSame after after2

-- two evaluations of which the same was asked are equal
abbrev pub OneEvaluation : Type 0
OneEvaluation =
    (ticket : ℕ) (name : Name) (heard : List ℕ) (dt : ℕ) (inputs : List FieldInput) (takes : List Take)
    (before : List StateValue) (code : CodeValue) (x y : Evaluated)
    → IsAsked ticket name heard dt inputs takes before code x
    → IsAsked ticket name heard dt inputs takes before code y → x ≡ y

-- What one evaluation of a task is, as a value, and what it means.
use Rattle.std.specs.Prelude.{◌≡◌, ℕ, List, Option, Some, length, map, slice_get}
use Rattle.std.specs.Option.{option_map, option_and_then}
use Rattle.std_blocks.specs.declared.value.Value.{Value}
use Rattle.scan_steps.specs.declared.slot.Slot.{Slot}
use Rattle.scan_steps.specs.declared.slot.Slot.TheVariants.{Variable}
use Rattle.power_flow.specs.LadderValue.{LadderValue}
use Rattle.declared_names.specs.Kinds.{kind_of}
use Rattle.power_flow.specs.StateValue.{StateValue}
use Rattle.scan_steps.specs.Slots.{variable_at}
use Rattle.power_flow.specs.Scan.{ScanMeaning, AllAreWide}
use Rattle.task_codes.specs.declared.binding.Source.{Source}
use Rattle.task_codes.specs.declared.binding.Source.TheVariants.{Field, Given}
use Rattle.task_codes.specs.declared.binding.Binding.{Binding}
use Rattle.task_codes.specs.declared.task_output.TaskOutput.{TaskOutput}
use Rattle.task_codes.specs.CodeValue.{ProgramValue, CodeValue, bindings_at, image_kinds}
use Rattle.evaluation.specs.declared.field_input.FieldInput.{FieldInput}
use Rattle.evaluation.specs.declared.name.Name.{Name}
use Rattle.evaluation.specs.declared.take.Take.{Take}
use Rattle.evaluation.specs.Inputs.{field_value}
use Rattle.evaluation.specs.Takes.{AreTakesOf}
use Rattle.evaluation.specs.States.{AreStatesOf}

-- One evaluation: what it was asked, of which incarnation of each resource its maker had heard, what it took, the state
-- before, what it gave, the state after, and the code.
pub record Evaluated : Type 0 where
  pub ticket : ℕ
  pub name : Name
  pub heard : List ℕ
  pub dt : ℕ
  pub inputs : List FieldInput
  pub takes : List Take
  pub before : List StateValue
  pub outputs : List Value
  pub after : List StateValue
  pub code : CodeValue

-- what a source gives: the value of a field address, or of an output in the one take from its producer
abbrev pub given : List FieldInput → List Take → Source → Option Value
given inputs takes (Field a) = Some (field_value inputs a)
given inputs takes (Given producer output) =
    option_and_then (λ (t : Take). slice_get t.image output) (slice_get takes producer)

-- no input is bound at the place
abbrev pub IsUnbound : List Binding → ℕ → Type 0
IsUnbound bindings place = (j : ℕ) (b : Binding) → slice_get bindings j ≡ Some b → b.place ≡ place → ⊥

-- Bound inputs are filled: at the place of each stands what its source gives, and at all other places what stood there.
pub record AreFilled (inputs : List FieldInput) (takes : List Take) (bindings : List Binding)
    (slots filled : List Slot) : Type 0 where
  pub bound : (j : ℕ) (b : Binding) → slice_get bindings j ≡ Some b
      → slice_get filled b.place ≡ option_map (λ v. Variable v) (given inputs takes b.source)
  pub unbound : (place : ℕ) → IsUnbound bindings place → slice_get filled place ≡ slice_get slots place

-- a program's state with its bound inputs filled, and all memories as they were
pub record IsFilled (inputs : List FieldInput) (takes : List Take) (bindings : List Binding)
    (s t : StateValue) : Type 0 where
  pub slots : AreFilled inputs takes bindings s.slots t.slots
  pub memories : t.memories ≡ s.memories

-- one scan of a ladder, from a state to a state (a ladder's boxes are wide)
pub record IsScanned (l : LadderValue) (dt : ℕ) (s t : StateValue) : Type 0 where
  pub wide : AllAreWide l.networks
  pub scan : ScanMeaning l.declarations dt l.networks s.slots s.memories t.slots t.memories

-- all bound inputs of all programs are filled
pub record AllFilled (c : CodeValue) (inputs : List FieldInput) (takes : List Take)
    (before filled : List StateValue) : Type 0 where
  pub many : length filled ≡ length before
  pub each : (i : ℕ) (s t : StateValue) → slice_get before i ≡ Some s → slice_get filled i ≡ Some t
      → IsFilled inputs takes (bindings_at c i) s t

-- each program is scanned, with the same elapsed time
pub record AllScanned (c : CodeValue) (dt : ℕ) (filled after : List StateValue) : Type 0 where
  pub many : length filled ≡ length c.programs
  pub as_many : length after ≡ length filled
  pub each : (i : ℕ) (p : ProgramValue) (s t : StateValue) → slice_get c.programs i ≡ Some p
      → slice_get filled i ≡ Some s → slice_get after i ≡ Some t → IsScanned p.ladder dt s t

-- the value of an output
abbrev pub output_value : List StateValue → TaskOutput → Option Value
output_value states o = option_and_then (λ (s : StateValue). variable_at s.slots o.place) (slice_get states o.program)

-- the values of all VAR_OUTPUTs, programs and outputs in order of declaration
abbrev pub AreOutputs : CodeValue → List StateValue → List Value → Type 0
AreOutputs c states outputs = map (λ v. Some v) outputs ≡ map (output_value states) c.outputs

-- The task meaning. First all bound inputs of all programs are filled, each from its address or from the take of its
-- producer. Then the programs' ladders are scanned. The outputs are the values of all VAR_OUTPUTs at the end, and the
-- state after is the whole state.
pub record IsMeaning (c : CodeValue) (inputs : List FieldInput) (takes : List Take) (dt : ℕ)
    (before : List StateValue) (outputs : List Value) (after : List StateValue) : Type 0 where
  pub filled : List StateValue
  pub inputs_filled : AllFilled c inputs takes before filled
  pub programs_scanned : AllScanned c dt filled after
  pub outputs_read : AreOutputs c after outputs

-- a code, run on these inputs, takes, elapsed time and state before, gives these outputs and leaves this state
unfoldable pub Means : CodeValue → List FieldInput → List Take → ℕ → List StateValue → List Value → List StateValue
    → Type 0
Means c inputs takes dt before outputs after = IsMeaning c inputs takes dt before outputs after

-- the evaluation is what its own code means
abbrev pub IsMeant : Evaluated → Type 0
IsMeant x = Means x.code x.inputs x.takes x.dt x.before x.outputs x.after

-- the evaluation's states are those of its code, its takes are from the code's producers, its outputs are of the
-- kinds of the code's image, and what it has heard of its own resource is its own incarnation
pub record IsWhole (x : Evaluated) : Type 0 where
  pub before_fits : AreStatesOf x.code x.before
  pub after_fits : AreStatesOf x.code x.after
  pub takes_suit : AreTakesOf x.code x.takes
  pub kinds_are : map kind_of x.outputs ≡ image_kinds x.code
  pub own_heard : slice_get x.heard x.name.task.resource ≡ Some x.name.incarnation

-- an evaluation with these contents
abbrev pub evaluated : ℕ → Name → List ℕ → ℕ → List FieldInput → List Take → List StateValue → CodeValue → List Value
    → List StateValue → Evaluated
evaluated ticket name heard dt inputs takes before code outputs after =
    record {
      ticket = ticket;
      name = name;
      heard = heard;
      dt = dt;
      inputs = inputs;
      takes = takes;
      before = before;
      outputs = outputs;
      after = after;
      code = code;
    }

-- x has what was asked, and what that means
pub record IsAsked (ticket : ℕ) (name : Name) (heard : List ℕ) (dt : ℕ) (inputs : List FieldInput) (takes : List Take)
    (before : List StateValue) (code : CodeValue) (x : Evaluated) : Type 0 where
  pub is : x ≡ evaluated ticket name heard dt inputs takes before code x.outputs x.after
  pub meant : IsMeant x
  pub whole : IsWhole x

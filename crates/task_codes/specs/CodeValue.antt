-- The code of a task, as a value.
use Rattle.std.specs.Prelude.{◌≡◌, ℕ, ◌<◌, List, [], ◌∷◌, Option, Some, None, length, map, slice_get, slice_index_or, All}
use Rattle.std.specs.Global.{Vec}
use Rattle.std.specs.List.{flat_map, enumerate_from}
use Rattle.std.specs.Option.{option_map, option_and_then}
use Rattle.declared_names.specs.declared.declarations.Kind.{Kind}
use Rattle.declared_names.specs.declared.declarations.Declared.{Declared}
use Rattle.declared_names.specs.declared.declarations.Declared.TheVariants.{Input, Output, Local, Instance}
use Rattle.declared_names.specs.declared.declarations.Declaration.{Declaration}
use Rattle.power_flow.specs.LadderValue.{LadderValue}
use Rattle.declared_names.specs.Kinds.{input_kind_at, kind_of_space}
use Rattle.lists.specs.Items.{items_or_none}
use Rattle.task_codes.specs.declared.binding.Source.{Source}
use Rattle.task_codes.specs.declared.binding.Source.TheVariants.{Field, Given}
use Rattle.task_codes.specs.declared.binding.Binding.{Binding}
use Rattle.task_codes.specs.declared.task_ref.TaskRef.{TaskRef}
use Rattle.task_codes.specs.declared.task_output.TaskOutput.{TaskOutput}
use Rattle.task_codes.specs.declared.retained_variable.RetainedVariable.{RetainedVariable}

-- a program of a task: the instance's name, its ladder, and the places of its retained variables
pub record ProgramValue : Type 0 where
  pub name : List ℕ
  pub ladder : LadderValue
  pub retained : List ℕ

-- The code of a task: its programs in order, the bound inputs of each, the tasks from which it takes, the kinds
-- expected of the image of each, its own outputs, and its retained variables.
pub record CodeValue : Type 0 where
  pub programs : List ProgramValue
  pub bindings : List (List Binding)
  pub producers : List TaskRef
  pub expected : List (List Kind)
  pub outputs : List TaskOutput
  pub retained : List RetainedVariable

-- the items of several lists
abbrev pub lists_of : {A : Type 0} → List (Vec A) → List (List A)
lists_of xs = map (λ x. x.items) xs

-- the code of these parts
abbrev pub code_with : Vec ProgramValue → Vec (Vec Binding) → Vec TaskRef → Vec (Vec Kind) → Vec TaskOutput
    → Vec RetainedVariable → CodeValue
code_with programs bindings producers expected outputs retained =
    record {
      programs = programs.items;
      bindings = lists_of bindings.items;
      producers = producers.items;
      expected = lists_of expected.items;
      outputs = outputs.items;
      retained = retained.items;
    }

-- the kind of a variable that is an output
abbrev pub output_kind : Declared → Option Kind
output_kind (Input k) = None
output_kind (Output k) = Some k
output_kind (Local k) = None
output_kind (Instance b) = None

-- the output that variable k of program i is, if it is one
abbrev pub output_at : ℕ → ℕ → Declaration → List TaskOutput
output_at i k d =
    items_or_none (option_map (λ kind. (record { program = i; place = k; kind = kind }) ∷ []) (output_kind d.declared))

-- the outputs among the variables of program i, in order of declaration
abbrev pub outputs_in : ℕ → List Declaration → List TaskOutput
outputs_in i ds = flat_map (λ (e : ℕ × Declaration). output_at i e.0 e.1) (enumerate_from 0 ds)

-- the outputs of a task: those of each of its programs in turn
abbrev pub outputs_of : List ProgramValue → List TaskOutput
outputs_of ps = flat_map (λ (e : ℕ × ProgramValue). outputs_in e.0 e.1.ladder.declarations) (enumerate_from 0 ps)

-- the kinds of the values of a task's image
abbrev pub image_kinds : CodeValue → List Kind
image_kinds c = map (λ (o : TaskOutput). o.kind) c.outputs

-- the bound inputs of program i; none where there is no such program
abbrev pub bindings_at : CodeValue → ℕ → List Binding
bindings_at c i = items_or_none (slice_get c.bindings i)

-- the kinds expected of the image of producer p; none where there is no such producer
abbrev pub expected_at : CodeValue → ℕ → List Kind
expected_at c p = items_or_none (slice_get c.expected p)

-- the kind of what a source gives
abbrev pub source_kind : CodeValue → Source → Option Kind
source_kind c (Field a) = Some (kind_of_space a.space)
source_kind c (Given p o) = slice_get (expected_at c p) o

-- an input stands at the binding's place, and its source gives values of its kind
abbrev pub IsBindingSound : CodeValue → ProgramValue → Binding → Type 0
IsBindingSound c p b = (k : Kind) × (input_kind_at p.ladder.declarations b.place ≡ Some k)
    × (source_kind c b.source ≡ Some k)

-- no place is bound twice
abbrev pub AreOnce : List Binding → Type 0
AreOnce bs = (j k : ℕ) (d : Binding) → j < length bs → k < length bs
    → (slice_index_or bs j d).place ≡ (slice_index_or bs k d).place → j ≡ k

-- the output is a VAR_OUTPUT of one of the programs
pub record IsOutputOf (c : CodeValue) (o : TaskOutput) : Type 0 where
  pub program : ProgramValue
  pub variable : Declaration
  pub run : slice_get c.programs o.program ≡ Some program
  pub declared : slice_get program.ladder.declarations o.place ≡ Some variable
  pub kind_is : output_kind variable.declared ≡ Some o.kind

-- the kind of a variable of the ladder alone
abbrev pub local_kind : Declared → Option Kind
local_kind (Input k) = None
local_kind (Output k) = None
local_kind (Local k) = Some k
local_kind (Instance b) = None

-- the variable of program i that is retained at a place, if it is a local of the ladder
abbrev pub retained_at : ℕ → List Declaration → ℕ → List RetainedVariable
retained_at i ds place =
    items_or_none (option_map (λ kind. (record { program = i; place = place; kind = kind }) ∷ [])
    (option_and_then (λ (d : Declaration). local_kind d.declared) (slice_get ds place)))

-- the retained variables of program i, in the order of its places
abbrev pub retained_in : ℕ → ProgramValue → List RetainedVariable
retained_in i p = flat_map (retained_at i p.ladder.declarations) p.retained

-- the retained variables of a task: those of each of its programs in turn
abbrev pub retained_of : List ProgramValue → List RetainedVariable
retained_of ps = flat_map (λ (e : ℕ × ProgramValue). retained_in e.0 e.1) (enumerate_from 0 ps)

-- the retained variable is a VAR of one of the programs, and no block
pub record IsRetainedOf (c : CodeValue) (v : RetainedVariable) : Type 0 where
  pub program : ProgramValue
  pub variable : Declaration
  pub run : slice_get c.programs v.program ≡ Some program
  pub declared : slice_get program.ladder.declarations v.place ≡ Some variable
  pub kind_is : local_kind variable.declared ≡ Some v.kind

-- the kinds of the values of a task's retained variables
abbrev pub retained_kinds : CodeValue → List Kind
retained_kinds c = map (λ (v : RetainedVariable). v.kind) c.retained

-- no task stands twice among them
abbrev pub AreDistinct : List TaskRef → Type 0
AreDistinct ts = (j k : ℕ) (t : TaskRef) → slice_get ts j ≡ Some t → slice_get ts k ≡ Some t → j ≡ k

-- A code by itself: each program has its bindings, each producer its kinds, no task is a producer twice, and the
-- outputs and the retained variables are those of the programs.
pub record IsSoundCode (c : CodeValue) : Type 0 where
  pub each_bound : length c.bindings ≡ length c.programs
  pub each_expected : length c.expected ≡ length c.producers
  pub outputs_are : c.outputs ≡ outputs_of c.programs
  pub each_output : (k : ℕ) (o : TaskOutput) → slice_get c.outputs k ≡ Some o → IsOutputOf c o
  pub sound : (i : ℕ) (p : ProgramValue) → slice_get c.programs i ≡ Some p → All (IsBindingSound c p) (bindings_at c i)
  pub once : (i : ℕ) → AreOnce (bindings_at c i)
  pub distinct : AreDistinct c.producers
  pub retained_are : c.retained ≡ retained_of c.programs
  pub each_retained : (k : ℕ) (v : RetainedVariable) → slice_get c.retained k ≡ Some v → IsRetainedOf c v

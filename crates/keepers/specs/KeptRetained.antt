-- The file in which a task's retained variables are kept, and what is told of it.
use Rattle.std.specs.Prelude.{◌≡◌, ◌≢◌, ℕ, ◌++◌, List, [], Option, Some, None, Result, Ok, Err, codes, map, take, slice_get}
use Rattle.std.specs.List.{AllByRecursion, flat_map, zip}
use Rattle.std.specs.Option.{option_map, option_and_then}
use Rattle.std.specs.Fmt.{decimal}
use Rattle.std_blocks.specs.declared.value.Value.{Value}
use Rattle.declared_names.specs.declared.declarations.Declaration.{Declaration}
use Rattle.declared_names.specs.Kinds.{kind_of}
use Rattle.lists.specs.Items.{items_or_none}
use Rattle.task_codes.specs.CodeValue.{ProgramValue, CodeValue, retained_kinds}
use Rattle.task_codes.specs.declared.retained_variable.RetainedVariable.{RetainedVariable}
use Rattle.evaluation.specs.Retained.{Suits, initial_retained}
use Rattle.text_lines.specs.LineParts.{value_text}
use Rattle.text_lines.specs.ReadParts.{IsInRange}
use Rattle.keepers.specs.declared.keeper_fault.KeeperFault.{KeeperFault}
use Rattle.keepers.specs.declared.keeper_fault.KeeperFault.TheVariants as fault
use Rattle.keepers.specs.Keepers.{Telling}
use Rattle.keepers.specs.KnownFiles.{KnownFile}
use Rattle.keepers.specs.KnownFiles.KnownFile.{Unknown, Missing, Holding, Broken}

-- the name of the file of a resource's task: its place, counted from 0, stands in it
abbrev pub retained_file : List ℕ → ℕ → List ℕ
retained_file resource task = resource ++ codes "." ++ decimal task ++ codes ".ret"

-- the name of the program that a retained variable is in
abbrev pub program_name : CodeValue → RetainedVariable → List ℕ
program_name code v = items_or_none (option_map (λ (p : ProgramValue). p.name) (slice_get code.programs v.program))

-- the name of a retained variable as it was declared
abbrev pub variable_name : CodeValue → RetainedVariable → List ℕ
variable_name code v =
    items_or_none
    (option_map (λ (d : Declaration). d.name)
    (option_and_then (λ (p : ProgramValue). slice_get p.ladder.declarations v.place) (slice_get code.programs v.program)))

-- what stands before a value: PROGRAM.VARIABLE=
abbrev pub before_value : CodeValue → RetainedVariable → List ℕ
before_value code v = program_name code v ++ codes "." ++ variable_name code v ++ codes "="

-- the line of a retained variable and its value
abbrev pub line_text : CodeValue → RetainedVariable × Value → List ℕ
line_text code e = before_value code e.0 ++ value_text e.1 ++ codes "\n"

-- the text of a task's file: one line for each retained variable, in order
abbrev pub retained_text : CodeValue → List Value → List ℕ
retained_text code values = flat_map (line_text code) (zip code.retained values)

-- If anything is known of a file, it keeps these values; no file keeps the initial ones.
abbrev pub KeepsValues : KnownFile → CodeValue → List Value → Type 0
KeepsValues Unknown code values = Unit {0}
KeepsValues Missing code values = values ≡ initial_retained code
KeepsValues (Holding bytes) code values = bytes ≡ retained_text code values
KeepsValues Broken code values = ⊥

-- If anything is known of a file, it keeps no values of this code.
abbrev pub KeepsNoValues : KnownFile → CodeValue → Type 0
KeepsNoValues Unknown code = Unit {0}
KeepsNoValues Missing code = ⊥
KeepsNoValues (Holding bytes) code =
    (values : List Value) → Suits code values → AllByRecursion IsInRange values → bytes ≢ retained_text code values
KeepsNoValues Broken code = Unit {0}

-- the values that a file keeps, or why none are told
abbrev pub IsToldOf : KnownFile → CodeValue → Result (List Value) KeeperFault → Type 0
IsToldOf file code (Ok values) = KeepsValues file code values
IsToldOf file code (Err fault.Unreadable) = KeepsNoValues file code
IsToldOf file code (Err fault.Unwritable) = ⊥
IsToldOf file code (Err fault.Spent) = ⊥
IsToldOf file code (Err fault.Memory) = Unit {0}

-- what may be told of a resource's tasks, by the files of a folder
abbrev pub tells_of : (List ℕ → KnownFile) → List ℕ → Telling
tells_of file resource task code told = IsToldOf (file (retained_file resource task)) code told

-- a text begins with the line of a retained variable and a value of its kind, and goes on like this
pub record BeginsWith (code : CodeValue) (v : RetainedVariable) (text : List ℕ) (value : Value) (rest : List ℕ) : Type 0 where
  pub kind_is : kind_of value ≡ v.kind
  pub in_range : IsInRange value
  pub text_is : text ≡ line_text code (v, value) ++ rest

-- a text isn't what should stand there: the line of a retained variable, or where there is none its end
abbrev pub Differs : CodeValue → Option RetainedVariable → List ℕ → Type 0
Differs code None text = text ≢ []
Differs code (Some v) text = (value : Value) (rest : List ℕ) → BeginsWith code v text value rest → ⊥

-- A text departs from what is kept of a code: before this place its lines are those of some values, and there it differs.
pub record DepartsAt (code : CodeValue) (text : List ℕ) (place : ℕ) : Type 0 where
  pub values : List Value
  pub rest : List ℕ
  pub kinds_are : map kind_of values ≡ take place (retained_kinds code)
  pub in_range : AllByRecursion IsInRange values
  pub text_is : text ≡ retained_text code values ++ rest
  pub differs : Differs code (slice_get code.retained place) rest

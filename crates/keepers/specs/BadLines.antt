-- Where a task's file departs from what is kept of its code.
use Rattle.std.specs.Prelude.{◌≡◌, ℕ, ◌+◌, ◌≤◌, ◌++◌, List, Option, Some, None, length, codes, string_bytes, slice_get}
use Rattle.std.specs.List.{AllByRecursion}
use Rattle.std_blocks.specs.declared.value.Value.{Value}
use Rattle.declared_names.specs.declared.declarations.Kind.{Kind}
use Rattle.declared_names.specs.declared.declarations.Kind.TheVariants as kind
use Rattle.task_codes.specs.declared.retained_variable.RetainedVariable.{RetainedVariable}
use Rattle.task_codes.specs.CodeValue.{CodeValue}
use Rattle.evaluation.specs.Retained.{Suits}
use Rattle.text_lines.specs.ReadParts.{IsInRange}
use Rattle.keepers.specs.declared.bad_line.BadLine.{BadLine}
use Rattle.keepers.specs.declared.keeper_fault.KeeperFault.{KeeperFault}
use Rattle.keepers.specs.declared.keeper_fault.KeeperFault.TheVariants as fault
use Rattle.keepers.specs.KnownFiles.{KnownFile, CantBeRead}
use Rattle.keepers.specs.KnownFiles.KnownFile.{Unknown, Missing, Holding, Broken}
use Rattle.keepers.specs.KeptRetained.{before_value, retained_text, DepartsAt}

-- what is told of the values that a kind has
abbrev pub range_text : Kind → List ℕ
range_text kind.Bool = codes "0 or 1"
range_text kind.Int = codes "-32768 to 32767"
range_text kind.Time = codes "T#0ms to T#4294967295ms"

-- what is to stand in a line: what stands before the value of the retained variable, and which values it can have; behind
-- the lines of all retained variables nothing
abbrev pub expected_text : CodeValue → Option RetainedVariable → List ℕ
expected_text code None = codes "the end of the file"
expected_text code (Some v) = before_value code v ++ range_text v.kind

-- a line that isn't what is kept of a code is told by its number, counted from 1, and what is to stand there
pub record IsBadAt (code : CodeValue) (place : ℕ) (bad : BadLine) : Type 0 where
  pub line_is : bad.line ≡ place + 1
  pub expected_is : string_bytes bad.expected ≡ expected_text code (slice_get code.retained place)
  pub within : place ≤ length code.retained

-- The line is the first one at which these bytes depart from what is kept of a code; there is none where they are the
-- text of some values.
abbrev pub IsFirstBad : CodeValue → List ℕ → Option BadLine → Type 0
IsFirstBad code bytes None =
    (values : List Value) × Suits code values × AllByRecursion IsInRange values × (bytes ≡ retained_text code values)
IsFirstBad code bytes (Some bad) = (place : ℕ) × DepartsAt code bytes place × IsBadAt code place bad

-- the line of a file that isn't what is kept of a code, if anything is known of the file; no file has no such line
abbrev pub IsBadLineOf : KnownFile → CodeValue → Option BadLine → Type 0
IsBadLineOf Unknown code None = Unit {0}
IsBadLineOf Unknown code (Some bad) = (place : ℕ) × IsBadAt code place bad
IsBadLineOf Missing code found = found ≡ None
IsBadLineOf (Holding bytes) code found = IsFirstBad code bytes found
IsBadLineOf Broken code found = ⊥

-- why no such line is told: the file can't be read, or memory is wanting
abbrev pub IsBadLineFault : KnownFile → KeeperFault → Type 0
IsBadLineFault file fault.Unreadable = CantBeRead file
IsBadLineFault file fault.Unwritable = ⊥
IsBadLineFault file fault.Spent = ⊥
IsBadLineFault file fault.Memory = Unit {0}

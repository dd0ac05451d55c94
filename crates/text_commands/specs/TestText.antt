-- What `plc eval` writes and tells, in each form, with words NAME==VALUES or without.
use Rattle.std.specs.Prelude.{◌≡◌, ◌≢◌, ℕ, ◌+◌, ◌<◌, ◌⊎◌, List, Bool, true, false, Option, Some, None, IsTrue, All, take, length, slice_get, string_bytes}
use Rattle.std.specs.List.{flat_map}
use Rattle.std.specs.Io.KnownBytes.{Appends, Keeps}
use Rattle.network.specs.Links.{Diagram}
use Rattle.std_blocks.specs.declared.value.Value.{Value}
use Rattle.declared_names.specs.declared.declarations.Declaration.{Declaration}
use Rattle.scan_steps.specs.declared.slot.Slot.{Slot}
use Rattle.scan_steps.specs.Slots.{variable_at}
use Rattle.text_lines.specs.Sending.{Stops}
use Rattle.text_lines.specs.declared.send_fault.SendFault.{SendFault}
use Rattle.text_lines.specs.declared.send_fault.SendFault.TheVariants as sending
use Rattle.text_commands.specs.declared.word_fault.WordFault.{WordFault}
use Rattle.text_commands.specs.declared.text_command_fault.TextCommandFault.{TextCommandFault}
use Rattle.text_commands.specs.declared.text_command_fault.TextCommandFault.TheVariants.{Text, Word, Write, Memory}
use Rattle.text_commands.specs.declared.difference.Difference.{Difference}
use Rattle.text_commands.specs.declared.form.Form.{Form}
use Rattle.text_commands.specs.declared.form.Form.TheVariants.{Rows, Drawings, Chart}
use Rattle.text_commands.specs.Series.{SeriesValue}
use Rattle.text_commands.specs.Lines.{line_of}
use Rattle.text_commands.specs.Chart.{chart_of}
use Rattle.text_commands.specs.Shown.{IsShown}
use Rattle.text_commands.specs.Restarts.{GivenValue, kept_places}
use Rattle.text_commands.specs.Trace.{SomeTrace}
use Rattle.text_commands.specs.Expectations.{SpellTest, IsFirstRefusedOf, test_scans}
use Rattle.text_commands.specs.Sources.{AreRetainedFrom, IsDrawingFrom, IsLadderFrom, RefusesName, RefusesSource, SourceValue}

-- After scan k, counted from 0, a variable has this value, and another one is expected. Behind its last value nothing
-- is expected of it.
pub record IsOtherAt (row : SeriesValue) (k : ℕ) (slots : List Slot) (value wanted : Value) : Type 0 where
  pub wants : slice_get row.values k ≡ Some wanted
  pub is : variable_at slots row.place ≡ Some value
  pub other : value ≢ wanted

-- after scan k no variable has another value than is expected
abbrev pub AgreesAt : List SeriesValue → ℕ → List Slot → Type 0
AgreesAt expected k slots = All (λ row. (value wanted : Value) → IsOtherAt row k slots value wanted → ⊥) expected

-- after each of the first so many scans all is as expected
abbrev pub AgreesBefore : List SeriesValue → List (List Slot) → ℕ → Type 0
AgreesBefore expected states scans =
    (k : ℕ) (slots : List Slot) → k < scans → slice_get states k ≡ Some slots → AgreesAt expected k slots

-- the first variable, in the order of the words, of which another value is expected after scan k than it has
pub record IsFirstOther (expected : List SeriesValue) (k : ℕ) (slots : List Slot) (place : ℕ) (value wanted : Value)
    : Type 0 where
  pub number : ℕ
  pub row : SeriesValue
  pub at : slice_get expected number ≡ Some row
  pub place_is : place ≡ row.place
  pub other : IsOtherAt row k slots value wanted
  pub before : AgreesAt (take number expected) k slots

-- A difference after scan k: the first by the order of the words. Its name is that of the declaration; scans count from
-- 1.
pub record IsDifferenceAt (ds : List Declaration) (expected : List SeriesValue) (k : ℕ) (slots : List Slot)
    (found : Difference) : Type 0 where
  pub declaration : Declaration
  pub place : ℕ
  pub declared : slice_get ds place ≡ Some declaration
  pub first : IsFirstOther expected k slots place found.value found.expected
  pub name : string_bytes found.name ≡ declaration.name
  pub scan : found.scan ≡ k + 1

-- the first difference, by scan
pub record IsFirstDifference (ds : List Declaration) (expected : List SeriesValue) (states : List (List Slot))
    (found : Difference) : Type 0 where
  pub k : ℕ
  pub slots : List Slot
  pub at : slice_get states k ≡ Some slots
  pub before : AgreesBefore expected states k
  pub here : IsDifferenceAt ds expected k slots found

-- all is as expected, or this is the first difference
abbrev pub IsOutcome : List Declaration → List SeriesValue → List (List Slot) → Option Difference → Type 0
IsOutcome ds expected states None = AgreesBefore expected states (length states)
IsOutcome ds expected states (Some found) = IsFirstDifference ds expected states found

-- a line is written for each variable
abbrev pub is_chart : Form → Bool
is_chart Rows = false
is_chart (Drawings color) = false
is_chart Chart = true

-- what is written of the scans of a trace: a line for each scan; the same, with the drawing behind each line; or a line
-- for each variable
abbrev pub IsTextOf : Form → List ℕ → {ds : List Declaration} → {networks : List Diagram} → {dt : ℕ} → {given : GivenValue}
    → {most : ℕ} → SomeTrace ds networks dt given most → List ℕ → Type 0
IsTextOf Rows drawing {ds} made text = text ≡ flat_map (line_of ds) made.states
IsTextOf (Drawings color) drawing {ds} {networks} {dt} {given} made text =
    IsShown drawing color ds networks dt given made.states made.slots made.memories text
IsTextOf Chart drawing {ds} made text = text ≡ chart_of ds made.states

-- the ladder of the source with its drawing and its retained variables, and what the words are for it
pub record AskedTest (source : SourceValue) (words : List (List ℕ)) : Type 0 where
  pub declarations : List Declaration
  pub networks : List Diagram
  pub ladder : IsLadderFrom source declarations networks
  pub drawing : List ℕ
  pub drawn : IsDrawingFrom source drawing
  pub rows : List SeriesValue
  pub expected : List SeriesValue
  pub read : SpellTest declarations words rows expected
  pub retained : List ℕ
  pub retained_are : AreRetainedFrom source retained

-- what is given to its scans, where it restarts before these
abbrev pub given_of : {source : SourceValue} → {words : List (List ℕ)} → AskedTest source words → List ℕ → GivenValue
given_of asked restarts = record {
  rows = asked.rows;
  restarts = restarts;
  kept = kept_places asked.declarations asked.networks asked.retained;
}

-- all scans were made, their text was written, and this is what came of what was expected
pub record WritesTest (source : SourceValue) (words : List (List ℕ)) (restarts : List ℕ) (dt : ℕ) (form : Form)
    (old new : Option (List ℕ)) (found : Option Difference) : Type 0 where
  pub asked : AskedTest source words
  pub made : SomeTrace asked.declarations asked.networks dt (given_of asked restarts)
      (test_scans (given_of asked restarts) asked.expected)
  pub all : length made.states ≡ test_scans (given_of asked restarts) asked.expected
  pub text : List ℕ
  pub text_is : IsTextOf form asked.drawing made text
  pub appended : Appends old new text
  pub outcome : IsOutcome asked.declarations asked.expected made.states found

-- the text of some of the scans, of a chart that of all, didn't go out whole
pub record StopsTest (fault : SendFault) (source : SourceValue) (words : List (List ℕ)) (restarts : List ℕ) (dt : ℕ)
    (form : Form) (old new : Option (List ℕ)) : Type 0 where
  pub asked : AskedTest source words
  pub made : SomeTrace asked.declarations asked.networks dt (given_of asked restarts)
      (test_scans (given_of asked restarts) asked.expected)
  pub all : IsTrue (is_chart form) → length made.states ≡ test_scans (given_of asked restarts) asked.expected
  pub text : List ℕ
  pub text_is : IsTextOf form asked.drawing made text
  pub stopped : Stops fault text old new

-- the words are no test of the source's ladder, and this is the first fault
pub record RefusesTestWords (source : SourceValue) (words : List (List ℕ)) (fault : WordFault) : Type 0 where
  pub declarations : List Declaration
  pub networks : List Diagram
  pub ladder : IsLadderFrom source declarations networks
  pub first : IsFirstRefusedOf declarations words fault

-- why there was a fault, and what was written before: nothing before a fault of the text, of the name of a program type
-- or of the words
abbrev pub ExplainsTest : SourceValue → List (List ℕ) → List ℕ → ℕ → Form → Option (List ℕ) → Option (List ℕ)
    → TextCommandFault → Type 0
ExplainsTest source words restarts dt form old new (Text fault) = RefusesSource source fault × Keeps old new
ExplainsTest source words restarts dt form old new (Word fault) =
    (RefusesName source fault ⊎ RefusesTestWords source words fault) × Keeps old new
ExplainsTest source words restarts dt form old new Write = StopsTest sending.Write source words restarts dt form old new
ExplainsTest source words restarts dt form old new Memory =
    Keeps old new ⊎ StopsTest sending.Memory source words restarts dt form old new

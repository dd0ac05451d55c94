-- What the parts of a test give and answer.
use Rattle.std.specs.Prelude.{◌≡◌, ℕ, ◌++◌, ◌⊎◌, List, [], ◌∷◌, false, Option, Some, None, IsTrue, Any, map, length}
use Rattle.std_blocks.specs.declared.value.Value.{Value}
use Rattle.network.specs.Links.{Diagram}
use Rattle.declared_names.specs.declared.declarations.Declaration.{Declaration}
use Rattle.scan_steps.specs.declared.slot.Slot.{Slot}
use Rattle.power_flow.specs.StateValue.{StateValue}
use Rattle.text_commands.specs.declared.text_command_fault.TextCommandFault.{TextCommandFault}
use Rattle.text_commands.specs.declared.text_command_fault.TextCommandFault.TheVariants.{Text, Word, Write, Memory}
use Rattle.text_commands.specs.declared.word_fault.WordFaultKind.{WordFaultKind}
use Rattle.text_commands.specs.Series.{SeriesValue, IsSetting, IsFirstRefusedSetting, SpellNoSettings}
use Rattle.text_commands.specs.Expectations.{IsExpected, IsFirstRefusedOf, is_expectation, test_scans}
use Rattle.text_commands.specs.Restarts.{GivenValue}
use Rattle.text_commands.specs.Trace.{SomeTrace}
use Rattle.text_commands.specs.declared.form.Form.{Form}
use Rattle.text_commands.specs.EvalText.{WritesScans}
use Rattle.text_commands.specs.TestText.{AgreesAt, IsDifferenceAt, IsOutcome, IsTextOf}
use Rattle.text_commands.specs.declared.difference.Difference.{Difference}

-- what stands at the names after each scan
abbrev pub slots_of : List StateValue → List (List Slot)
slots_of states = map (λ s. s.slots) states

-- the last of some values, or one before them
abbrev pub last_of : Option Value → List Value → Option Value
last_of before [] = before
last_of before (value ∷ values) = last_of (Some value) values

-- no series is of the place
abbrev pub IsNewPlace : List SeriesValue → ℕ → Type 0
IsNewPlace rows place = Any (λ other. other.place ≡ place) rows → ⊥

-- one word more was read: what is set, or what is expected
abbrev pub AddsWord : List Declaration → List ℕ → List SeriesValue → List SeriesValue → List SeriesValue → List SeriesValue
    → Type 0
AddsWord ds word rows expected rows' expected' =
    (IsTrue (is_expectation word) × (rows' ≡ rows) × (row : SeriesValue) × IsExpected ds word row
    × IsNewPlace expected row.place × (expected' ≡ expected ++ row ∷ []))
    ⊎ ((is_expectation word ≡ false) × (expected' ≡ expected) × (row : SeriesValue) × IsSetting ds word row
    × IsNewPlace rows row.place × (rows' ≡ rows ++ row ∷ []))

-- a word wasn't read: it is refused for this, or memory
abbrev pub RefusesWord : (WordFaultKind → Type 0) → ℕ → TextCommandFault → Type 0
RefusesWord Refused number (Text fault) = ⊥
RefusesWord Refused number (Word fault) = (fault.number ≡ number) × Refused fault.kind
RefusesWord Refused number Write = ⊥
RefusesWord Refused number Memory = Unit {0}

-- the words set nothing: one is refused, or memory
abbrev pub RefusesSet : (ds : List Declaration) (words : List (List ℕ)) → TextCommandFault → Type 0
RefusesSet ds words (Text fault) = ⊥
RefusesSet ds words (Word fault) = SpellNoSettings ds words × IsFirstRefusedSetting ds words fault
RefusesSet ds words Write = ⊥
RefusesSet ds words Memory = Unit {0}

-- the words weren't read: one is refused, or memory
abbrev pub RefusesTest : (ds : List Declaration) (words : List (List ℕ)) → TextCommandFault → Type 0
RefusesTest ds words (Text fault) = ⊥
RefusesTest ds words (Word fault) = IsFirstRefusedOf ds words fault
RefusesTest ds words Write = ⊥
RefusesTest ds words Memory = Unit {0}

-- what is given to the scans of a test
abbrev pub given_for : List SeriesValue → List ℕ → List ℕ → GivenValue
given_for rows restarts kept = record { rows = rows; restarts = restarts; kept = kept }

-- these are the states after each of so many scans
abbrev pub IsTraceOf : List Declaration → List Diagram → ℕ → GivenValue → ℕ → List StateValue → Type 0
IsTraceOf ds networks dt given scans states =
    (made : SomeTrace ds networks dt given scans) × (made.states ≡ slots_of states) × (length states ≡ scans)

-- these are the states after each of so many scans, and this is what is written of them
abbrev pub IsFormTrace : Form → List ℕ → List Declaration → List Diagram → ℕ → GivenValue → ℕ → List StateValue → List ℕ
    → Type 0
IsFormTrace form drawing ds networks dt given scans states text =
    (traced : IsTraceOf ds networks dt given scans states) × IsTextOf form drawing traced.0 text

-- the text of all scans, and what came of what was expected
pub record IsTestTrace (drawing : List ℕ) (ds : List Declaration) (networks : List Diagram) (dt : ℕ) (form : Form)
    (given : GivenValue) (expected : List SeriesValue) (text : List ℕ) (found : Option Difference) : Type 0 where
  pub made : SomeTrace ds networks dt given (test_scans given expected)
  pub all : length made.states ≡ test_scans given expected
  pub text_is : IsTextOf form drawing made text
  pub outcome : IsOutcome ds expected made.states found

-- what was found of what is expected after scan k
abbrev pub IsFoundAt : List Declaration → List SeriesValue → ℕ → List Slot → Option Difference → Type 0
IsFoundAt ds expected k slots None = AgreesAt expected k slots
IsFoundAt ds expected k slots (Some found) = IsDifferenceAt ds expected k slots found

-- what came of what was expected until scan k goes on to what comes of it with this scan
abbrev pub GoesOn : List Declaration → List SeriesValue → ℕ → List Slot → Option Difference → Option Difference → Type 0
GoesOn ds expected k slots found more = (states : List (List Slot)) → length states ≡ k → IsOutcome ds expected states found
    → IsOutcome ds expected (states ++ slots ∷ []) more

-- so many scans were made, a line was written after each, and this came of what was expected
abbrev pub WritesRun : List Declaration → List Diagram → ℕ → GivenValue → List SeriesValue → ℕ → Option (List ℕ)
    → Option (List ℕ) → Option Difference → Type 0
WritesRun ds networks dt given expected scans old new found =
    (written : WritesScans ds networks dt given scans old new) × IsOutcome ds expected written.made.states found

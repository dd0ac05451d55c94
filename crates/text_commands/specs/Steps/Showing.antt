-- What the parts of a text of scans with their drawings give and answer.
use Rattle.std.specs.Prelude.{◌≡◌, ℕ, ◌++◌, ◌≤◌, List, Bool, Option, length}
use Rattle.std.specs.Io.KnownBytes.{Appends}
use Rattle.network.specs.Links.{Diagram}
use Rattle.declared_names.specs.declared.declarations.Declaration.{Declaration}
use Rattle.scan_steps.specs.declared.slot.Slot.{Slot}
use Rattle.power_flow.specs.StateValue.{StateValue}
use Rattle.power_flow.specs.LadderValue.{LadderValue}
use Rattle.power_flow.specs.Shown.{ShowsScan}
use Rattle.text_lines.specs.Sending.{Stops}
use Rattle.text_lines.specs.declared.send_fault.SendFault.{SendFault}
use Rattle.text_commands.specs.declared.difference.Difference.{Difference}
use Rattle.text_commands.specs.Restarts.{GivenValue}
use Rattle.text_commands.specs.Series.{SeriesValue}
use Rattle.text_commands.specs.TestText.{IsOutcome}
use Rattle.text_commands.specs.Lines.{line_of}
use Rattle.text_commands.specs.LiveDrawing.{live_drawing}
use Rattle.text_commands.specs.Shown.{IsShown}
use Rattle.text_commands.specs.Steps.Testing.{slots_of}

-- the text of one scan
abbrev pub IsShownScan : List ℕ → Bool → LadderValue → ℕ → StateValue → StateValue → List ℕ → Type 0
IsShownScan drawing color l dt old new text =
    (shown : List Bool) × ShowsScan l dt old new shown
    × (text ≡ line_of l.declarations new.slots ++ live_drawing color drawing l.networks shown)

-- some scans, at most so many, and their text
pub record SomeShown (drawing : List ℕ) (color : Bool) (ds : List Declaration) (networks : List Diagram) (dt : ℕ)
    (given : GivenValue) (most : ℕ) : Type 0 where
  pub states : List (List Slot)
  pub slots : List Slot
  pub memories : List Bool
  pub text : List ℕ
  pub shown : IsShown drawing color ds networks dt given states slots memories text
  pub few : length states ≤ most

-- these are the states after each of so many scans, and their text
abbrev pub IsShownTrace : List ℕ → Bool → List Declaration → List Diagram → ℕ → GivenValue → ℕ → List StateValue
    → List ℕ → Type 0
IsShownTrace drawing color ds networks dt given scans states text =
    (made : SomeShown drawing color ds networks dt given scans) × (made.states ≡ slots_of states)
    × (length states ≡ scans) × (made.text ≡ text)

-- the text of so many scans was written, and this came of what was expected
pub record WritesShown (drawing : List ℕ) (color : Bool) (ds : List Declaration) (networks : List Diagram) (dt : ℕ)
    (given : GivenValue) (expected : List SeriesValue) (scans : ℕ) (old new : Option (List ℕ)) (found : Option Difference) : Type 0 where
  pub made : SomeShown drawing color ds networks dt given scans
  pub all : length made.states ≡ scans
  pub appended : Appends old new made.text
  pub outcome : IsOutcome ds expected made.states found

-- the text of some scans didn't go out whole
pub record StopsShown (drawing : List ℕ) (color : Bool) (ds : List Declaration) (networks : List Diagram) (dt : ℕ)
    (given : GivenValue) (scans : ℕ) (fault : SendFault) (old new : Option (List ℕ)) : Type 0 where
  pub made : SomeShown drawing color ds networks dt given scans
  pub stopped : Stops fault made.text old new

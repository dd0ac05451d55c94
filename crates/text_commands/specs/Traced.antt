-- What the files of a trace show of the scans of a ladder.
use Rattle.std.specs.Prelude.{ℕ, zero, suc, ◌==◌, ◌++◌, if◌then◌else◌, List, [], ◌∷◌, Option, None, length, slice_get}
use Rattle.std.specs.Option.{option_map_or}
use Rattle.declared_names.specs.declared.declarations.Declaration.{Declaration}
use Rattle.scan_steps.specs.declared.slot.Slot.{Slot}
use Rattle.traces.specs.Times.{each}
use Rattle.traces.specs.Tracks.{TrackValue}
use Rattle.traces.specs.declared.texts.Wanted.{Wanted}
use Rattle.traces.specs.Wanted.{AreTexts}
use Rattle.text_commands.specs.Chart.{is_variable, values_at}
use Rattle.text_commands.specs.declared.form.Form.{Form}
use Rattle.text_commands.specs.declared.traced.Traced.{Traced}
use Rattle.text_commands.specs.Sources.{SourceValue}
use Rattle.text_commands.specs.TestText.{WritesTest}

-- a variable with its value after each scan; of an instance nothing is shown
abbrev pub track_of : List (List Slot) → ℕ → Declaration → List TrackValue
track_of states place d =
    if is_variable d.declared then (record { scope = None; name = d.name; values = values_at place states }) ∷ [] else []

-- those of the first so many declared names
abbrev pub tracks_to : List Declaration → List (List Slot) → ℕ → List TrackValue
tracks_to ds states zero = []
tracks_to ds states (suc place) = tracks_to ds states place ++ option_map_or (track_of states place) (slice_get ds place) []

-- the variables in order of declaration
abbrev pub tracks_of : List Declaration → List (List Slot) → List TrackValue
tracks_of ds states = tracks_to ds states (length ds)

-- how long a scan is shown, in ms
abbrev pub step_of : ℕ → ℕ
step_of dt = if dt == 0 then 1 else dt

-- all scans were made, their text was written, what came of what was expected is this; and these are the texts that are
-- wanted, over the scans and their variables
pub record WritesTraced (source : SourceValue) (words : List (List ℕ)) (restarts : List ℕ) (dt : ℕ) (form : Form)
    (wanted : Wanted) (old new : Option (List ℕ)) (traced : Traced) : Type 0 where
  pub test : WritesTest source words restarts dt form old new traced.difference
  pub texts : AreTexts wanted (each (step_of dt)) (length test.made.states)
      (tracks_of test.asked.declarations test.made.states) traced.texts

-- The texts of the outputs of a plant's tasks.
use Rattle.std.specs.Prelude.{ℕ, ◌+◌, List, Option, length}
use Rattle.task_codes.specs.declared.due.Due.{Due}
use Rattle.plant.specs.PlantValue.{PlantValue}
use Rattle.evaluation.specs.Meaning.{Evaluated}
use Rattle.traces.specs.declared.texts.Wanted.{Wanted}
use Rattle.traces.specs.declared.texts.TraceTexts.{TraceTexts}
use Rattle.traces.specs.Wanted.{AreTexts}
use Rattle.traces.specs.Times.{each, planned}
use Rattle.traces.specs.Moments.{of_events}
use Rattle.traces.specs.Outputs.{tracks_of}

-- The texts that are wanted of all outputs: their first values, and those behind each moment, in which this was evaluated or
-- nothing.
abbrev pub AreTimedTexts : Wanted → (ℕ → ℕ) → PlantValue → List (Option Evaluated) → TraceTexts → Type 0
AreTimedTexts wanted time plant moments texts = AreTexts wanted time (length moments + 1) (tracks_of plant moments) texts

-- each moment is shown for 1 ms
abbrev pub AreOutputTexts : Wanted → PlantValue → List (Option Evaluated) → TraceTexts → Type 0
AreOutputTexts wanted plant moments texts = AreTimedTexts wanted (each 1) plant moments texts

-- Each command of a plan up to and with until is a moment, at its entry's own: what these evaluations made by their tickets.
abbrev pub ArePlannedTexts : Wanted → PlantValue → ℕ → List Due → List Evaluated → TraceTexts → Type 0
ArePlannedTexts wanted plant until dues log texts =
    AreTimedTexts wanted (planned dues until) plant (of_events (length dues) log) texts

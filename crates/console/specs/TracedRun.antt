-- What the program writes for `plc sim`, and the texts for the files of its trace.
use Rattle.std.specs.Prelude.{◌≡◌, ℕ, List, Option, length}
use Rattle.console.specs.declared.request.SimRequest.{SimRequest}
use Rattle.plant.specs.PlantValue.{PlantValue}
use Rattle.evaluation.specs.Meaning.{Evaluated}
use Rattle.world.specs.declared.event.Event.{Event}
use Rattle.world.specs.Run.{IsRun}
use Rattle.world.specs.Simulated.{from_one}
use Rattle.tested_schedules.specs.declared.tested.Tested.{Tested}
use Rattle.tested_schedules.specs.Tested.{HasTested}
use Rattle.tested_schedules.specs.TestedLines.{HasTestedLines}
use Rattle.traces.specs.declared.texts.Wanted.{Wanted}
use Rattle.traces.specs.declared.texts.TraceTexts.{TraceTexts}
use Rattle.traces.specs.Moments.{of_events}
use Rattle.traces.specs.Texts.{AreOutputTexts}
use Rattle.console.specs.declared.answered.Answered.{Answered}
use Rattle.console.specs.Answers.{AreWantedFor}
use Rattle.console.specs.Statuses.{status_of_expectations}

-- the texts for the files of a trace are those of the evaluations that the run of these events made
pub record AreRunTexts (plant : PlantValue) (request : SimRequest) (events : List Event) (texts : TraceTexts) : Type 0 where
  pub log : List Evaluated
  pub made : IsRun (from_one plant request.max_number) events log
  pub wanted : Wanted
  pub asked : AreWantedFor request.plant.now request.files wanted
  pub texts_are : AreOutputTexts wanted plant (of_events (length events) log) texts

-- what was written is the schedule's text, and nothing else; the status is that of what its EXPECT lines found, and these
-- are the texts for the files of its trace
pub record WritesTracedRun (plant : PlantValue) (request : SimRequest) (schedule : List ℕ) (old new : Option (List ℕ))
    (answered : Answered) : Type 0 where
  pub tested : Tested
  pub run : HasTested plant request.max_number schedule old new tested
  pub status : answered.status ≡ status_of_expectations tested.has_unmet
  pub traced : AreRunTexts plant request run.ended.events answered.texts

-- the same of the schedule that was read
pub record WritesTracedLines (plant : PlantValue) (request : SimRequest) (given left old new : Option (List ℕ))
    (answered : Answered) : Type 0 where
  pub tested : Tested
  pub live : HasTestedLines plant request.max_number given left old new tested
  pub status : answered.status ≡ status_of_expectations tested.has_unmet
  pub traced : AreRunTexts plant request live.run.ended.events answered.texts

-- The texts of a schedule that was done.
use Rattle.console.specs.declared.request.SimRequest.{SimRequest}
use Rattle.world.specs.Run.{IsRun}
use Rattle.world.specs.declared.simulation.Simulated.{Simulated}
use Rattle.traces.specs.declared.texts.Wanted.{Wanted}
use Rattle.traces.specs.declared.texts.TraceTexts.{TraceTexts}
use Rattle.traces.specs.Moments.{of_events}
use Rattle.traces.specs.Texts.{AreOutputTexts}
use Rattle.console.specs.Answers.{AreWantedFor}

-- the texts for the files of a trace, by what stands when a schedule is done
pub record AreEndTexts (request : SimRequest) (ended : Simulated) (texts : TraceTexts) : Type 0 where
  pub made : IsRun ended.world.setting ended.world.events ended.world.log
  pub wanted : Wanted
  pub asked : AreWantedFor request.plant.now request.files wanted
  pub texts_are : AreOutputTexts wanted ended.world.setting.plant (of_events ended.events ended.world.log) texts

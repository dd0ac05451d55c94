-- What the parts of a traced test give.
use Rattle.std.specs.Prelude.{ℕ, List, length}
use Rattle.network.specs.Links.{Diagram}
use Rattle.declared_names.specs.declared.declarations.Declaration.{Declaration}
use Rattle.traces.specs.declared.texts.Wanted.{Wanted}
use Rattle.traces.specs.Times.{each}
use Rattle.traces.specs.Wanted.{AreTexts}
use Rattle.text_commands.specs.Restarts.{GivenValue}
use Rattle.text_commands.specs.Series.{SeriesValue}
use Rattle.text_commands.specs.declared.form.Form.{Form}
use Rattle.text_commands.specs.declared.traced.Traced.{Traced}
use Rattle.text_commands.specs.Traced.{step_of, tracks_of}
use Rattle.text_commands.specs.Steps.Testing.{IsTestTrace}

-- the text of all scans, what came of what was expected, and the texts of the trace
pub record IsTracedTest (drawing : List ℕ) (ds : List Declaration) (networks : List Diagram) (dt : ℕ) (form : Form)
    (wanted : Wanted) (given : GivenValue) (expected : List SeriesValue) (text : List ℕ) (traced : Traced) : Type 0 where
  pub test : IsTestTrace drawing ds networks dt form given expected text traced.difference
  pub texts : AreTexts wanted (each (step_of dt)) (length test.made.states) (tracks_of ds test.made.states) traced.texts

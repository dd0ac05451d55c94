-- What is no hello.
use Rattle.std.proofs.lemmas.Result.{IfOk-weaker}
use Rattle.std.proofs.Common.{sym, ◌∙◌}
use Rattle.live_node.specs.Steps.Reading.{texts}
use Rattle.live_node.proofs.LinesRead.{own_line}
use Rattle.live_node.proofs.reading.read_by_words.Goals as goal

pub returns-in-None : goal.returns-in-None
returns-in-None c =
    IfOk-weaker c.read_own_event.result _ _ (λ found h. own_line c.args.plant.now (texts c.args.words.now) found (sym c.is_idle.ensures ∙ c.if-is_idle.false) c.in-None.ensures h) c.read_own_event.ensures

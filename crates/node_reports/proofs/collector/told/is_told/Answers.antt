-- Where no command has the ticket of a fault, the fault is told of none.
use Rattle.std.proofs.lemmas.Bool.{false≢true}
use Rattle.node_reports.proofs.Telling.{told_of_none}
use Rattle.node_reports.proofs.collector.told.is_told.Goals as goal

pub returns-in-None : goal.returns-in-None
returns-in-None c = λ journals marks. (
  λ yes. absurd (false≢true yes),
  λ told. absurd (told_of_none c.args.plant.now c.args.commands.now journals c.args.unanswered.now c.args.fault.now c.in-None.ensures told),
)

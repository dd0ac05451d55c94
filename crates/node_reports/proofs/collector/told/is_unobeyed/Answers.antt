-- A restart isn't obeyed where its place isn't marked.
use Rattle.node_reports.proofs.Telling.{unobeyed_if_unmarked}
use Rattle.node_reports.proofs.collector.told.is_unobeyed.Goals as goal

pub returns-in-Restart : goal.returns-in-Restart
returns-in-Restart c = λ journals marks.
    unobeyed_if_unmarked c.args.restarts.now journals c.args.unanswered.now c.args.command.now c.is_unmarked.result c.requires.place marks c.in-Restart.is c.is_unmarked.ensures

-- Where no command has the ticket of an evaluation, the evaluation answers none.
use Rattle.std.proofs.Common.{ap, sym, ◌∙◌}
use Rattle.std.proofs.lemmas.Bool.{false≢true}
use Rattle.evaluation.specs.Meaning.{Evaluated}
use Rattle.node_reports.specs.Reports.{command_of}
use Rattle.node_reports.proofs.collector.obedience.is_answer.Goals as goal

pub returns-in-None : goal.returns-in-None
returns-in-None c = (
  λ yes. absurd (false≢true yes),
  λ listed. absurd (c.in-None.ensures (command_of c.args.frame.now) listed (sym (c.ticket.ensures ∙ ap (λ (x : Evaluated). x.ticket) c.evaluation-evaluation.ensures))),
)

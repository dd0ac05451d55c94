-- Where no command has the ticket of a restart, the restart answers none.
use Rattle.std.proofs.Common.{refl}
use Rattle.std.proofs.lemmas.Bool.{false≢true}
use Rattle.node_reports.proofs.collector.obedience.is_commanded.Goals as goal

pub returns-in-None : goal.returns-in-None
returns-in-None c = (λ yes. absurd (false≢true yes), λ answers. absurd (c.in-None.ensures _ (rw c.in-Restarted.is at answers) refl))

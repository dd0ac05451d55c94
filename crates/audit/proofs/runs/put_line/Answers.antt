-- The last run has gone on.
use Rattle.std.proofs.Common.{inr}
use Rattle.audit.proofs.runs.put_line.Goals as goal

pub returns-in_ok-push : goal.returns-in_ok-push
returns-in_ok-push c = inr (c.pop.new.self.items, c.in-Some.run', c.in_ok-run.run', c.in-Some.ensures.items, c.in_ok-push.ensures.items, c.in_ok-run.ensures)

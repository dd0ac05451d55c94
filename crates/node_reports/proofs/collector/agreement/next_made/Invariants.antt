-- What was made from the first place on was made from the present one on.
use Rattle.std.proofs.Common.{◌≡◌, drop}
use Rattle.node_reports.specs.Journals.{made}
use Rattle.node_reports.proofs.collector.agreement.next_made.Given as goal

abbrev pub invariant-loop-k : goal.invariant-loop-k
invariant-loop-k l = made (drop l.from l.steps) ≡ made (drop l.k l.steps)

-- The incarnations of each entry before the present one fit.
use Rattle.std.proofs.Common.{ℕ, ◌<◌, get_or}
use Rattle.evaluation.specs.Meaning.{Evaluated}
use Rattle.node_reports.proofs.Remaking.{HasIncarnation}
use Rattle.node_reports.proofs.collector.agreeing.all_incarnations_fit.Given as goal

abbrev pub invariant-loop-k : goal.invariant-loop-k
invariant-loop-k l = (i : ℕ) (d : Evaluated) → i < l.k → HasIncarnation (get_or l.entries i d)

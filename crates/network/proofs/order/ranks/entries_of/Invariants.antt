use Rattle.network.proofs.Ordered.Ranking.{EntriesTo}
use Rattle.network.proofs.order.ranks.entries_of.Given as goal

abbrev pub invariant-loop-k : goal.invariant-loop-k
invariant-loop-k l = EntriesTo l.table l.labels l.ranks.items l.k

use Rattle.needed_networks.proofs.Placing.{PlacedBefore}
use Rattle.needed_networks.proofs.closed.is_closed.Given as goal

abbrev pub invariant-loop-k : goal.invariant-loop-k
invariant-loop-k l = PlacedBefore l.ladder.declarations l.idle l.omitted l.ladder.networks l.k

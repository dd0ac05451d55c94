use Rattle.network.specs.Steps.Ranks.{ArePlaces}
use Rattle.network.specs.Steps.Twice.{IsTwiceIn}
use Rattle.network.proofs.seeking.found.twice_places.Given as goal

abbrev pub invariant-loop-k : goal.invariant-loop-k
invariant-loop-k l = ArePlaces (IsTwiceIn l.boxes l.k) l.places.items

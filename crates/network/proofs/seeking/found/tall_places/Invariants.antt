use Rattle.network.specs.Steps.Ranks.{ArePlaces, IsTallAt}
use Rattle.network.proofs.seeking.found.tall_places.Given as goal

abbrev pub invariant-loop-k : goal.invariant-loop-k
invariant-loop-k l = ArePlaces (IsTallAt l.networks l.k) l.places.items

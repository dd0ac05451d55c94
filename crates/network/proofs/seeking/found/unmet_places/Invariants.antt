use Rattle.network.specs.Steps.Ranks.{ArePlaces, IsUnmetAt}
use Rattle.network.proofs.seeking.found.unmet_places.Given as goal

abbrev pub invariant-loop-k : goal.invariant-loop-k
invariant-loop-k l = ArePlaces (IsUnmetAt l.elements l.ranks l.k) l.places.items

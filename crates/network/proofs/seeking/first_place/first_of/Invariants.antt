use Rattle.network.proofs.Sought.FirstFound.{FirstTo}
use Rattle.network.proofs.seeking.first_place.first_of.Given as goal

abbrev pub invariant-loop-place : goal.invariant-loop-place
invariant-loop-place l = FirstTo l.places l.first l.place-index

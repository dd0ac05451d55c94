use Rattle.network.proofs.Sought.FirstFound.{FirstsTo}
use Rattle.network.proofs.seeking.found.push_firsts.Given as goal

abbrev pub invariant-loop-element : goal.invariant-loop-element
invariant-loop-element l = FirstsTo l.initial.places.items l.places.items l.elements l.element-index

use Rattle.network.proofs.Ordered.LeftRails.{RailsTo}
use Rattle.network.proofs.places.rails.rails_of.Given as goal

abbrev pub invariant-loop-row : goal.invariant-loop-row
invariant-loop-row l = RailsTo l.drawing l.rails.items l.row

-- Nothing is seen of the resources so far.
use Rattle.world.specs.Steps.Tables.{AreUnseen}
use Rattle.world.proofs.schedule.tables.none_seen.Given as goal

abbrev pub invariant-loop-resource : goal.invariant-loop-resource
invariant-loop-resource l = AreUnseen l._resource l.seen.items

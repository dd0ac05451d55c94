use Rattle.std.proofs.Common.{◌≡◌, ◌++◌, take}
use Rattle.std.specs.List.{flat_map}
use Rattle.world.specs.Schedule.{delivery}
use Rattle.world.specs.Steps.Tables.{before}
use Rattle.world.proofs.schedule.deliveries.push_deliveries.Given as goal

abbrev pub invariant-loop-take : goal.invariant-loop-take
invariant-loop-take l = l.events.items ≡ l.fn.events.items ++ flat_map (delivery (before l.book.entries l.index) l.name) (take l.take-index l.takes)

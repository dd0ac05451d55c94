-- What is listed so far are the hearings up to the place.
use Rattle.std.proofs.Common.{◌≡◌, ◌++◌, take}
use Rattle.std.specs.List.{flat_map, enumerate_from}
use Rattle.world.specs.Schedule.{hearing}
use Rattle.world.specs.Steps.Tables.{before}
use Rattle.world.proofs.schedule.hearings.push_hearings.Given as goal

abbrev pub invariant-loop-of : goal.invariant-loop-of
invariant-loop-of l = l.events.items ≡ l.fn.events.items ++ flat_map (hearing l.book.first (before l.book.entries l.index) l.name) (enumerate_from 0 (take l.of l.heard))

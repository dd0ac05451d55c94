use Rattle.std.proofs.Common.{◌≡◌}
use Rattle.world.specs.Schedule.{schedule_of}
use Rattle.world.specs.Steps.Tables.{before, Tells}
use Rattle.world.proofs.schedule.BookSchedule.schedule.Given as goal

abbrev pub invariant-loop-i : goal.invariant-loop-i
invariant-loop-i l = (l.events.items ≡ schedule_of l.self.first (before l.self.entries l.i)) × Tells l.self l.i l.tables

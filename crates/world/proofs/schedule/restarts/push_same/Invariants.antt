use Rattle.std.proofs.Common.{◌≡◌, ◌++◌, replicate}
use Rattle.world.specs.declared.event.Event.TheVariants.{Restart}
use Rattle.world.proofs.schedule.restarts.push_same.Given as goal

abbrev pub invariant-loop-i : goal.invariant-loop-i
invariant-loop-i l = l.events.items ≡ l.fn.events.items ++ replicate l._i (Restart l.resource)

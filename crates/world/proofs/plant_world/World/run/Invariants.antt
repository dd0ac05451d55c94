use Rattle.std.proofs.Common.{take}
use Rattle.world.specs.Step.{HaveRun}
use Rattle.world.proofs.plant_world.World.run.Given as goal

abbrev pub invariant-loop-i : goal.invariant-loop-i
invariant-loop-i l = HaveRun l.fn.self l.self (take l.i l.events)

use Rattle.world.proofs.Worlds.Starts.{follows-refused}
use Rattle.world.proofs.plant_world.World.go.Goals as goal

pub returns-in_default : goal.returns-in_default
returns-in_default c = record { ok = follows-refused c.args.self.now c.step.new.self c.args.event.now c.in-Err.ensures.err (c.in-Err.ensures.refused c.in_default.not-Memory); err = tt; lawful = tt }

use Rattle.std.proofs.Common.{arith}
use Rattle.world.proofs.Worlds.Starts.{follows-next, stopped-at}
use Rattle.world.proofs.plant_world.World.run.Goals as goal

pub loop-i-preserved : goal.loop-i-preserved
loop-i-preserved c = follows-next c.args.self.now c.loop-i.self c.go.new.self c.args.events.now c.loop-i.i _ (omega arith) c.index-events-i.is c.loop-i.invariant c.in-Ok.ensures.ok

pub returns-in-Err-clause-stopped : goal.returns-in-Err-clause-stopped
returns-in-Err-clause-stopped c = stopped-at c.loop-i.self c.go.new.self c.args.events.now c.loop-i.i _ (omega arith) c.index-events-i.is c.in-Err.ensures.err c.in-Err.ensures.lawful

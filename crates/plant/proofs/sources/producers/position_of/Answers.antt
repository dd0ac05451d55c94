use Rattle.std.proofs.Common.{arith}
use Rattle.plant.proofs.sources.producers.position_of.Goals as goal

pub unreachable-requires : goal.unreachable-requires
unreachable-requires c = c.loop-k.invariant c.requires.0 c.args.task (omega (arith, c.requires.1)) c.requires.2

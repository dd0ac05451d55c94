-- Each number fits 32 bits.
use Rattle.std.proofs.Common.{arith}
use Rattle.node_reports.proofs.collector.agreeing.heard_of.Goals as goal

pub returns-clause-bound : goal.returns-clause-bound
returns-clause-bound c = λ m. let fits = c.type_inv.heard m in omega (arith, fits)

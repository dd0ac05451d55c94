use Rattle.name_faults.proofs.Dots.{on_no_dot}
use Rattle.name_faults.proofs.names.has_dot.Goals as goal

pub returns-clause-first : goal.returns-clause-first
returns-clause-first c = (on_no_dot c.args.name.now c.dot_in.result c.dot_in.ensures c.is_some.result c.is_some.ensures).0

pub returns-clause-second : goal.returns-clause-second
returns-clause-second c = (on_no_dot c.args.name.now c.dot_in.result c.dot_in.ensures c.is_some.result c.is_some.ensures).1

-- The lines ended, and nothing was lost at them.
use Rattle.plc_main.proofs.node_command.run_begun.Goals as goal

pub returns-in-Ok-clause-keeps : goal.returns-in-Ok-clause-keeps
returns-in-Ok-clause-keeps g c = c.in-Ok.ensures.keeps tt c.requires.keeps

-- What is no event.
use Rattle.live_node.proofs.LinesRead.{no_own}
use Rattle.live_node.specs.Steps.Reading.{texts}
use Rattle.live_node.proofs.reading.read_own_event.Goals as goal

pub returns-in-Err-Syntax : goal.returns-in-Err-Syntax
returns-in-Err-Syntax c = no_own c.args.plant.now (texts c.args.words.now) (c.in-Err-Syntax.ensures.fault c.in-Err-Syntax.field-0-is)

use Rattle.block_gates.proofs.Parts.{only_one}
use Rattle.block_gates.proofs.signals.only.Goals as goal

pub returns : goal.returns
returns c = only_one c.args.signals.now _ c.requires

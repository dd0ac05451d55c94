use Rattle.scan_gates.proofs.StateBits.{more_first}
use Rattle.scan_gates.proofs.states.push_input.Goals as goal

pub returns-clause-more : goal.returns-clause-more
returns-clause-more c = more_first _ _ _ c.in_ok-push.ensures.items

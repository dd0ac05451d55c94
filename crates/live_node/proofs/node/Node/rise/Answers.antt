-- What was noted is the whole note of the restart.
use Rattle.std.proofs.Common.{rules}
use Rattle.text_lines.proofs.Sending.{on_err}
use Rattle.live_node.specs.Steps.Sent.{all_sent}
use Rattle.live_node.proofs.node.Node.rise.Goals as goal

pub returns-in_err-push_risen-clause-part : goal.returns-in_err-push_risen-clause-part
returns-in_err-push_risen-clause-part g c = on_err _ (all_sent _ _ _ (search rules))

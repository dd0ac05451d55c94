-- All was written, and not handed on.
use Rattle.std.proofs.Common.{refl}
use Rattle.text_lines.proofs.Sending.{appends_kept}
use Rattle.live_node.specs.Steps.Sent.{all_sent}
use Rattle.live_node.proofs.answering.hand_on.Goals as goal

pub returns-in-Err-clause-part : goal.returns-in-Err-clause-part
returns-in-Err-clause-part g c = (refl, all_sent _ _ _ (appends_kept _ _ _ _ c.in_ok-write_text.ensures.whole c.in-Err.ensures.bytes))

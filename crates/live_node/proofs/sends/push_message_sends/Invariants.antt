-- The messages so far stand behind the text.
use Rattle.std.proofs.Common.{◌≡◌, ◌++◌, string_bytes}
use Rattle.live_node.specs.Sends.{is_taker, message_to, for_each_below}
use Rattle.live_node.proofs.sends.push_message_sends.Given as goal

abbrev pub invariant-loop-to : goal.invariant-loop-to
invariant-loop-to l = string_bytes l.out ≡ string_bytes l.fn.out ++ for_each_below (is_taker l.plant l.message) (message_to l.plant l.message) l.to

-- The hellos so far stand behind the text.
use Rattle.std.proofs.Common.{◌≡◌, ◌++◌, string_bytes}
use Rattle.crossings.specs.Partners.{is_partner}
use Rattle.live_node.specs.Sends.{hello_to, for_each_below}
use Rattle.live_node.proofs.sends.push_greetings.Given as goal

abbrev pub invariant-loop-to : goal.invariant-loop-to
invariant-loop-to l = string_bytes l.out ≡ string_bytes l.fn.out ++ for_each_below (is_partner l.plant l.resource) (hello_to l.plant l.resource l.incarnation) l.to

use Rattle.std.proofs.Common.{codes, string_bytes}
use Rattle.std.proofs.lemmas.Result.{on_ok_weaker}
use Rattle.verifying.specs.VerdictLines.{held_in}
use Rattle.verifying.proofs.Joining.{four_parts}
use Rattle.verifying.proofs.verdict_lines.push_holds.Goals as goal

pub returns : goal.returns
returns c =
    on_ok_weaker c.push_held_in.result
    (λ last. four_parts (string_bytes c.args.text.now) (codes "HOLDS ") c.args.name.now (codes " is never on") (held_in c.args.setup.now c.args.tally) _ _ _ _
    c.in_ok-push_str.ensures.bytes c.in_ok-push_str-2.ensures.bytes c.in_ok-push_str-3.ensures.bytes last)
    c.push_held_in.ensures

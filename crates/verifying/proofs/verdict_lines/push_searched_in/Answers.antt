use Rattle.std.proofs.Common.{codes, string_bytes}
use Rattle.verifying.specs.VerdictLines.{counted, needed_of}
use Rattle.verifying.proofs.Joining.{six_parts}
use Rattle.verifying.proofs.verdict_lines.push_searched_in.Goals as goal

pub returns : goal.returns
returns c =
    six_parts (string_bytes c.args.text.now) (codes ": ") (counted c.args.tally.states (codes "state")) (codes ", ") (counted c.args.tally.scans (codes "scan"))
    (needed_of c.args.tally.needed c.args.tally.networks) (codes "\n") _ _ _ _ _ _
    c.in_ok-push_str.ensures.bytes c.in_ok-push_counted.ensures c.in_ok-push_str-2.ensures.bytes c.in_ok-push_counted-2.ensures c.in_ok-push_needed_of.ensures c.in_ok-push_str-3.ensures.bytes

use Rattle.std.proofs.Common.{codes, string_bytes}
use Rattle.std.proofs.lemmas.Result.{on_ok_weaker}
use Rattle.verifying.specs.VerdictLines.{needed_of}
use Rattle.certified_claims.specs.CertifiedLines.{size_text}
use Rattle.certified_claims.proofs.Joining.{three_parts}
use Rattle.certified_claims.proofs.verdict_lines.push_shown_by.Goals as goal

pub returns : goal.returns
returns c =
    on_ok_weaker c.push_needed_of.result
    (λ last. three_parts (string_bytes c.args.text.now) (codes ": by induction, ") (size_text c.args.size) (needed_of c.args.scope.needed c.args.scope.networks) _ _ _ c.in_ok-push_str.ensures.bytes c.in_ok-push_size.ensures last)
    c.push_needed_of.ensures

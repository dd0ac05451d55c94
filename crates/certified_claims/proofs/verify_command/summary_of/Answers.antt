use Rattle.std.proofs.Common.{sym, subst}
use Rattle.verifying.specs.Summaries.{Sums}
use Rattle.certified_claims.specs.CertifiedAnswers.{IsFailure, IsOpen}
use Rattle.certified_claims.proofs.Summing.{sums}
use Rattle.certified_claims.proofs.verify_command.summary_of.Goals as goal

pub returns : goal.returns
returns c =
    let verdicts = c.args.verdicts.now in
    subst (Sums IsFailure IsOpen verdicts) (sym c.of.ensures) (sums IsFailure IsOpen verdicts c.has_failure.result c.has_open.result c.has_failure.ensures c.has_open.ensures)

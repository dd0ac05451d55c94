use Rattle.std.proofs.Common.{sym, subst}
use Rattle.verifying.specs.Summaries.{Sums, IsFailure, IsOpen}
use Rattle.verifying.proofs.Summing.{sums}
use Rattle.verifying.proofs.summary.summary_of.Goals as goal

pub returns : goal.returns
returns c =
    let verdicts = c.args.verdicts.now in
    subst (Sums IsFailure IsOpen verdicts) (sym c.of.ensures) (sums IsFailure IsOpen verdicts c.has_failure.result c.has_open.result c.has_failure.ensures c.has_open.ensures)

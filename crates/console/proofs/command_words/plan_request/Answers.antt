-- What the words ask for is refused only for want of memory.
use Rattle.std.proofs.Common.{codes, Some}
use Rattle.lists.proofs.Results.{kept_fault}
use Rattle.clap.specs.Words.{first_of, found_of, rows_of}
use Rattle.console.specs.CommandLine.{AsksFor, GivesNumber, OnlyMemoryRefuses}
use Rattle.console.proofs.Matching.{part_refused, plan_parts}
use Rattle.console.proofs.command_words.plan_request.Goals as goal

pub returns-in_err-number_of-clause-refused : goal.returns-in_err-number_of-clause-refused
returns-in_err-number_of-clause-refused c =
    let found = rows_of (found_of c.args.inner.now) in
    kept_fault c.in_err-number_of.field-0.0 (OnlyMemoryRefuses (AsksFor (Some (codes "plan", rows_of (found_of c.args.inner.now))))) _ c.from_residual.ensures.1
    (part_refused (AsksFor (Some (codes "plan", rows_of (found_of c.args.inner.now)))) (GivesNumber 0 (first_of (codes "until") found)) c.in_err-number_of.field-0.0 (λ r asked. let parts = plan_parts found r asked in parts) c.in_err-number_of.ensures.refused)

-- What the words ask for is refused only for want of memory.
use Rattle.std.proofs.Common.{codes, Some}
use Rattle.lists.proofs.Results.{kept_fault}
use Rattle.clap.specs.Words.{found_of, rows_of}
use Rattle.console.specs.CommandLine.{AsksFor, GivesStrictness, OnlyMemoryRefuses, is_given}
use Rattle.console.proofs.Matching.{check_parts, part_refused}
use Rattle.console.proofs.command_words.check_request.Goals as goal

pub returns-in_err-strictness_of-clause-refused : goal.returns-in_err-strictness_of-clause-refused
returns-in_err-strictness_of-clause-refused c =
    let found = rows_of (found_of c.args.inner.now) in
    kept_fault c.in_err-strictness_of.field-0.0 (OnlyMemoryRefuses (AsksFor (Some (codes "check", rows_of (found_of c.args.inner.now))))) _ c.from_residual.ensures.1
    (part_refused (AsksFor (Some (codes "check", rows_of (found_of c.args.inner.now)))) (GivesStrictness (is_given (codes "strict") found) (is_given (codes "no-warnings") found)) c.in_err-strictness_of.field-0.0 (λ r asked. check_parts found r asked) (rw (c.is_given.ensures, c.is_given-2.ensures) at c.in_err-strictness_of.ensures.refused))

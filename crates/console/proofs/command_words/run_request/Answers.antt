-- What the words ask for is refused only for want of memory.
use Rattle.std.proofs.Common.{codes, Some}
use Rattle.lists.proofs.Results.{kept_fault}
use Rattle.clap.specs.Words.{first_of, found_of, rows_of}
use Rattle.console.specs.CommandLine.{AsksFor, GivesNumber, GivesPace, OnlyMemoryRefuses, is_given}
use Rattle.console.proofs.Matching.{memory_refused, part_refused, run_parts}
use Rattle.console.proofs.command_words.run_request.Goals as goal

pub returns-in_err-number_of-clause-refused : goal.returns-in_err-number_of-clause-refused
returns-in_err-number_of-clause-refused c =
    let found = rows_of (found_of c.args.inner.now) in
    kept_fault c.in_err-number_of.field-0.0 (OnlyMemoryRefuses (AsksFor (Some (codes "run", rows_of (found_of c.args.inner.now))))) _ c.from_residual.ensures.1
    (part_refused (AsksFor (Some (codes "run", rows_of (found_of c.args.inner.now)))) (GivesNumber 0 (first_of (codes "until") found)) c.in_err-number_of.field-0.0 (λ r asked. let parts = run_parts found r asked in (parts.0, parts.2)) c.in_err-number_of.ensures.refused)

pub returns-in_err-pace_of-clause-refused : goal.returns-in_err-pace_of-clause-refused
returns-in_err-pace_of-clause-refused c =
    let found = rows_of (found_of c.args.inner.now) in
    kept_fault c.in_err-pace_of.field-0.0 (OnlyMemoryRefuses (AsksFor (Some (codes "run", rows_of (found_of c.args.inner.now))))) _ c.from_residual-in_err-pace_of.ensures.1
    (part_refused (AsksFor (Some (codes "run", rows_of (found_of c.args.inner.now)))) (GivesPace (is_given (codes "paced") found) (is_given (codes "clock") found)) c.in_err-pace_of.field-0.0 (λ r asked. let parts = run_parts found r asked in (parts.1, parts.3)) (rw (c.is_given.ensures, c.is_given-2.ensures) at c.in_err-pace_of.ensures.refused))

pub returns-in_err-words_given-clause-refused : goal.returns-in_err-words_given-clause-refused
returns-in_err-words_given-clause-refused c = memory_refused (AsksFor (Some (codes "run", rows_of (found_of c.args.inner.now)))) _ c.from_residual-in_err-words_given.ensures.1

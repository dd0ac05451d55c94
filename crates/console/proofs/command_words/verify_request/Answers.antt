-- What the words ask for is refused only for want of memory.
use Rattle.std.proofs.Common.{codes, Some}
use Rattle.lists.proofs.Results.{kept_fault}
use Rattle.clap.specs.Words.{first_of, found_of, rows_of}
use Rattle.console.specs.CommandLine.{AsksCertificate, AsksFor, AsksSecond, GivesNumber, GivesOption, GivesRestarts, GivesStrictness, GivesWay, OnlyMemoryRefuses, is_given}
use Rattle.console.proofs.Matching.{memory_refused, part_refused, verify_parts}
use Rattle.console.proofs.command_words.verify_request.Goals as goal

pub returns-in_err-claims_given-clause-refused : goal.returns-in_err-claims_given-clause-refused
returns-in_err-claims_given-clause-refused c = memory_refused (AsksFor (Some (codes "verify", rows_of (found_of c.args.inner.now)))) _ c.from_residual.ensures.1

pub returns-in_err-premises_given-clause-refused : goal.returns-in_err-premises_given-clause-refused
returns-in_err-premises_given-clause-refused c = memory_refused (AsksFor (Some (codes "verify", rows_of (found_of c.args.inner.now)))) _ c.from_residual-in_err-premises_given.ensures.1

pub returns-in_err-number_if_given-clause-refused : goal.returns-in_err-number_if_given-clause-refused
returns-in_err-number_if_given-clause-refused c =
    let found = rows_of (found_of c.args.inner.now) in
    kept_fault c.in_err-number_if_given.field-0.0 (OnlyMemoryRefuses (AsksFor (Some (codes "verify", rows_of (found_of c.args.inner.now))))) _ c.from_residual-in_err-number_if_given.ensures.1
    (part_refused (AsksFor (Some (codes "verify", rows_of (found_of c.args.inner.now)))) (GivesOption (first_of (codes "dt") found)) c.in_err-number_if_given.field-0.0 (λ r asked. let parts = verify_parts found r asked in (parts.0, parts.4)) c.in_err-number_if_given.ensures.refused)

pub returns-in_err-number_of-clause-refused : goal.returns-in_err-number_of-clause-refused
returns-in_err-number_of-clause-refused c =
    let found = rows_of (found_of c.args.inner.now) in
    kept_fault c.in_err-number_of.field-0.0 (OnlyMemoryRefuses (AsksFor (Some (codes "verify", rows_of (found_of c.args.inner.now))))) _ c.from_residual-in_err-number_of.ensures.1
    (part_refused (AsksFor (Some (codes "verify", rows_of (found_of c.args.inner.now)))) (GivesNumber 1000000 (first_of (codes "most-states") found)) c.in_err-number_of.field-0.0 (λ r asked. let parts = verify_parts found r asked in (parts.1, parts.5)) c.in_err-number_of.ensures.refused)

pub returns-in_err-number_if_given-2-clause-refused : goal.returns-in_err-number_if_given-2-clause-refused
returns-in_err-number_if_given-2-clause-refused c =
    let found = rows_of (found_of c.args.inner.now) in
    kept_fault c.in_err-number_if_given-2.field-0.0 (OnlyMemoryRefuses (AsksFor (Some (codes "verify", rows_of (found_of c.args.inner.now))))) _ c.from_residual-in_err-number_if_given-2.ensures.1
    (part_refused (AsksFor (Some (codes "verify", rows_of (found_of c.args.inner.now)))) (GivesOption (first_of (codes "most-waiting") found)) c.in_err-number_if_given-2.field-0.0 (λ r asked. let parts = verify_parts found r asked in (parts.2, parts.6)) c.in_err-number_if_given-2.ensures.refused)

pub returns-in_err-strictness_of-clause-refused : goal.returns-in_err-strictness_of-clause-refused
returns-in_err-strictness_of-clause-refused c =
    let found = rows_of (found_of c.args.inner.now) in
    kept_fault c.in_err-strictness_of.field-0.0 (OnlyMemoryRefuses (AsksFor (Some (codes "verify", rows_of (found_of c.args.inner.now))))) _ c.from_residual-in_err-strictness_of.ensures.1
    (part_refused (AsksFor (Some (codes "verify", rows_of (found_of c.args.inner.now)))) (GivesStrictness (is_given (codes "strict") found) (is_given (codes "no-warnings") found)) c.in_err-strictness_of.field-0.0 (λ r asked. let parts = verify_parts found r asked in (parts.3, parts.7)) (rw (c.is_given-3.ensures, c.is_given-4.ensures) at c.in_err-strictness_of.ensures.refused))

pub returns-in_err-words_given-clause-refused : goal.returns-in_err-words_given-clause-refused
returns-in_err-words_given-clause-refused c = memory_refused (AsksFor (Some (codes "verify", rows_of (found_of c.args.inner.now)))) _ c.from_residual-in_err-words_given.ensures.1

pub returns-in_err-restarts_of-clause-refused : goal.returns-in_err-restarts_of-clause-refused
returns-in_err-restarts_of-clause-refused c =
    let found = rows_of (found_of c.args.inner.now) in
    kept_fault c.in_err-restarts_of.field-0.0 (OnlyMemoryRefuses (AsksFor (Some (codes "verify", rows_of (found_of c.args.inner.now))))) _ c.from_residual-in_err-restarts_of.ensures.1
    (part_refused (AsksFor (Some (codes "verify", rows_of (found_of c.args.inner.now)))) (GivesRestarts (is_given (codes "restarts") found) (is_given (codes "no-restarts") found)) c.in_err-restarts_of.field-0.0 (λ r asked. let parts = verify_parts found r asked in (parts.8, parts.9)) (rw (c.is_given.ensures, c.is_given-2.ensures) at c.in_err-restarts_of.ensures.refused))

pub returns-in_err-second_of-clause-refused : goal.returns-in_err-second_of-clause-refused
returns-in_err-second_of-clause-refused c =
    let found = rows_of (found_of c.args.inner.now) in
    kept_fault c.in_err-second_of.field-0.0 (OnlyMemoryRefuses (AsksFor (Some (codes "verify", rows_of (found_of c.args.inner.now))))) _ c.from_residual-in_err-second_of.ensures.1
    (part_refused (AsksFor (Some (codes "verify", rows_of (found_of c.args.inner.now)))) (AsksSecond found) c.in_err-second_of.field-0.0 (λ r asked. let parts = verify_parts found r asked in (parts.10, parts.11)) c.in_err-second_of.ensures.refused)

pub returns-in_err-way_of-clause-refused : goal.returns-in_err-way_of-clause-refused
returns-in_err-way_of-clause-refused c =
    let found = rows_of (found_of c.args.inner.now) in
    kept_fault c.in_err-way_of.field-0.0 (OnlyMemoryRefuses (AsksFor (Some (codes "verify", rows_of (found_of c.args.inner.now))))) _ c.from_residual-in_err-way_of.ensures.1
    (part_refused (AsksFor (Some (codes "verify", rows_of (found_of c.args.inner.now)))) (GivesWay (first_of (codes "by") found)) c.in_err-way_of.field-0.0 (λ r asked. let parts = verify_parts found r asked in (parts.12, parts.13)) (rw c.word_of-2.ensures at c.in_err-way_of.ensures.refused))

pub returns-in_err-certificate_of-clause-refused : goal.returns-in_err-certificate_of-clause-refused
returns-in_err-certificate_of-clause-refused c =
    let found = rows_of (found_of c.args.inner.now) in
    kept_fault c.in_err-certificate_of.field-0.0 (OnlyMemoryRefuses (AsksFor (Some (codes "verify", rows_of (found_of c.args.inner.now))))) _ c.from_residual-in_err-certificate_of.ensures.1
    (part_refused (AsksFor (Some (codes "verify", rows_of (found_of c.args.inner.now)))) (AsksCertificate found) c.in_err-certificate_of.field-0.0 (λ r asked. let parts = verify_parts found r asked in (parts.14, parts.15)) c.in_err-certificate_of.ensures.refused)

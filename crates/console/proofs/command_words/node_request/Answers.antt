-- What the words ask for is refused only for want of memory.
use Rattle.std.proofs.Common.{codes, Some}
use Rattle.lists.proofs.Results.{kept_fault}
use Rattle.clap.specs.Words.{found_of, rows_of}
use Rattle.console.specs.CommandLine.{AsksFor, GivesEnd, GivesJournalFull, GivesJournalSize, OnlyMemoryRefuses}
use Rattle.console.proofs.Matching.{node_parts, part_refused}
use Rattle.console.proofs.command_words.node_request.Goals as goal

pub returns-in_err-end_of-clause-refused : goal.returns-in_err-end_of-clause-refused
returns-in_err-end_of-clause-refused c =
    let found = rows_of (found_of c.args.inner.now) in
    kept_fault c.in_err-end_of.field-0.0 (OnlyMemoryRefuses (AsksFor (Some (codes "node", rows_of (found_of c.args.inner.now))))) _ c.from_residual.ensures.1
    (part_refused (AsksFor (Some (codes "node", rows_of (found_of c.args.inner.now)))) (GivesEnd found) c.in_err-end_of.field-0.0 (λ r asked. let parts = node_parts found r asked in (parts.0, parts.3)) c.in_err-end_of.ensures.refused)

pub returns-in_err-journal_full_of-clause-refused : goal.returns-in_err-journal_full_of-clause-refused
returns-in_err-journal_full_of-clause-refused c =
    let found = rows_of (found_of c.args.inner.now) in
    kept_fault c.in_err-journal_full_of.field-0.0 (OnlyMemoryRefuses (AsksFor (Some (codes "node", rows_of (found_of c.args.inner.now))))) _ c.from_residual-in_err-journal_full_of.ensures.1
    (part_refused (AsksFor (Some (codes "node", rows_of (found_of c.args.inner.now)))) (GivesJournalFull found) c.in_err-journal_full_of.field-0.0 (λ r asked. let parts = node_parts found r asked in (parts.1, parts.4)) c.in_err-journal_full_of.ensures.refused)

pub returns-in_err-journal_size_of-clause-refused : goal.returns-in_err-journal_size_of-clause-refused
returns-in_err-journal_size_of-clause-refused c =
    let found = rows_of (found_of c.args.inner.now) in
    kept_fault c.in_err-journal_size_of.field-0.0 (OnlyMemoryRefuses (AsksFor (Some (codes "node", rows_of (found_of c.args.inner.now))))) _ c.from_residual-in_err-journal_size_of.ensures.1
    (part_refused (AsksFor (Some (codes "node", rows_of (found_of c.args.inner.now)))) (GivesJournalSize found) c.in_err-journal_size_of.field-0.0 (λ r asked. let parts = node_parts found r asked in (parts.2, parts.5)) c.in_err-journal_size_of.ensures.refused)

-- What the words ask for is refused only for want of memory.
use Rattle.std.proofs.Common.{codes, Some}
use Rattle.lists.proofs.Results.{kept_fault}
use Rattle.clap.specs.Words.{first_of, found_of, rows_of}
use Rattle.text_commands.specs.Restarts.{AreRestarts}
use Rattle.console.specs.CommandLine.{AsksFor, AsksSecond, GivesColor, GivesNumber, GivesStrictness, GivesView, OnlyMemoryRefuses, is_given, restart_words}
use Rattle.console.proofs.Matching.{eval_parts, memory_refused, part_refused}
use Rattle.console.proofs.command_words.eval_request.Goals as goal

pub returns-in_err-number_of-clause-refused : goal.returns-in_err-number_of-clause-refused
returns-in_err-number_of-clause-refused c =
    let found = rows_of (found_of c.args.inner.now) in
    kept_fault c.in_err-number_of.field-0.0 (OnlyMemoryRefuses (AsksFor (Some (codes "eval", rows_of (found_of c.args.inner.now))))) _ c.from_residual.ensures.1
    (part_refused (AsksFor (Some (codes "eval", rows_of (found_of c.args.inner.now)))) (GivesNumber 0 (first_of (codes "dt") found)) c.in_err-number_of.field-0.0 (λ r asked. let parts = eval_parts found r asked in (parts.0, parts.4)) c.in_err-number_of.ensures.refused)

pub returns-in_err-view_of-clause-refused : goal.returns-in_err-view_of-clause-refused
returns-in_err-view_of-clause-refused c =
    let found = rows_of (found_of c.args.inner.now) in
    kept_fault c.in_err-view_of.field-0.0 (OnlyMemoryRefuses (AsksFor (Some (codes "eval", rows_of (found_of c.args.inner.now))))) _ c.from_residual-in_err-view_of.ensures.1
    (part_refused (AsksFor (Some (codes "eval", rows_of (found_of c.args.inner.now)))) (GivesView (is_given (codes "show") found) (is_given (codes "chart") found)) c.in_err-view_of.field-0.0 (λ r asked. let parts = eval_parts found r asked in (parts.1, parts.5)) (rw (c.is_given.ensures, c.is_given-2.ensures) at c.in_err-view_of.ensures.refused))

pub returns-in_err-color_of-clause-refused : goal.returns-in_err-color_of-clause-refused
returns-in_err-color_of-clause-refused c =
    let found = rows_of (found_of c.args.inner.now) in
    kept_fault c.in_err-color_of.field-0.0 (OnlyMemoryRefuses (AsksFor (Some (codes "eval", rows_of (found_of c.args.inner.now))))) _ c.from_residual-in_err-color_of.ensures.1
    (part_refused (AsksFor (Some (codes "eval", rows_of (found_of c.args.inner.now)))) (GivesColor (first_of (codes "color") found)) c.in_err-color_of.field-0.0 (λ r asked. let parts = eval_parts found r asked in (parts.2, parts.6)) (rw c.word_of.ensures at c.in_err-color_of.ensures.refused))

pub returns-in_err-strictness_of-clause-refused : goal.returns-in_err-strictness_of-clause-refused
returns-in_err-strictness_of-clause-refused c =
    let found = rows_of (found_of c.args.inner.now) in
    kept_fault c.in_err-strictness_of.field-0.0 (OnlyMemoryRefuses (AsksFor (Some (codes "eval", rows_of (found_of c.args.inner.now))))) _ c.from_residual-in_err-strictness_of.ensures.1
    (part_refused (AsksFor (Some (codes "eval", rows_of (found_of c.args.inner.now)))) (GivesStrictness (is_given (codes "strict") found) (is_given (codes "no-warnings") found)) c.in_err-strictness_of.field-0.0 (λ r asked. let parts = eval_parts found r asked in (parts.3, parts.7)) (rw (c.is_given-3.ensures, c.is_given-4.ensures) at c.in_err-strictness_of.ensures.refused))

pub returns-in_err-words_given-clause-refused : goal.returns-in_err-words_given-clause-refused
returns-in_err-words_given-clause-refused c = memory_refused (AsksFor (Some (codes "eval", rows_of (found_of c.args.inner.now)))) _ c.from_residual-in_err-words_given.ensures.1

pub returns-in_err-restarts_given-clause-refused : goal.returns-in_err-restarts_given-clause-refused
returns-in_err-restarts_given-clause-refused c =
    let found = rows_of (found_of c.args.inner.now) in
    kept_fault c.in_err-restarts_given.field-0.0 (OnlyMemoryRefuses (AsksFor (Some (codes "eval", rows_of (found_of c.args.inner.now))))) _ c.from_residual-in_err-restarts_given.ensures.1
    (part_refused (AsksFor (Some (codes "eval", rows_of (found_of c.args.inner.now)))) (AreRestarts (restart_words found)) c.in_err-restarts_given.field-0.0 (λ r asked. let parts = eval_parts found r asked in (parts.8, parts.9)) c.in_err-restarts_given.ensures.refused)

pub returns-in_err-second_of-clause-refused : goal.returns-in_err-second_of-clause-refused
returns-in_err-second_of-clause-refused c =
    let found = rows_of (found_of c.args.inner.now) in
    kept_fault c.in_err-second_of.field-0.0 (OnlyMemoryRefuses (AsksFor (Some (codes "eval", rows_of (found_of c.args.inner.now))))) _ c.from_residual-in_err-second_of.ensures.1
    (part_refused (AsksFor (Some (codes "eval", rows_of (found_of c.args.inner.now)))) (AsksSecond found) c.in_err-second_of.field-0.0 (λ r asked. let parts = eval_parts found r asked in (parts.10, parts.11)) c.in_err-second_of.ensures.refused)

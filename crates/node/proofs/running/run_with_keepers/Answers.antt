-- Where there is no report, the threads left nothing, or nothing of which one could be collected.
use Rattle.std.proofs.Common.{sym, subst}
use Rattle.lists.proofs.Results.{kept_fault}
use Rattle.node_reports.specs.Journals.{BeginAbove}
use Rattle.node_reports.specs.Reports.{IsRunFault}
use Rattle.node.specs.Keeping.{KeepAllLeft}
use Rattle.node.specs.Openings.{OpenAsTold}
use Rattle.node.specs.Raises.{BeginAsRaised, ComesAfterFirst, OneMayRefuse}
use Rattle.node.proofs.Kept.{all_reported}
use Rattle.node.proofs.Refused.{none_collected}
use Rattle.node.proofs.Unreported.{threads_fault, collect_refused}
use Rattle.node.proofs.running.run_with_keepers.Goals as goal

pub returns-in_err-book-clause-fault : goal.returns-in_err-book-clause-fault
returns-in_err-book-clause-fault g c =
    let found = c.in_err-book.field-0.0 in
    kept_fault found (IsRunFault c.args.plant.value c.args.max_number c.args.commands.now) _ c.from_residual.ensures.1 (threads_fault c.args.plant.value c.args.max_number c.args.commands.now found c.in_err-book.ensures.fault)

pub returns-in_err-book-clause-refused : goal.returns-in_err-book-clause-refused
returns-in_err-book-clause-refused g c =
    let found = c.in_err-book.field-0.0 in
    kept_fault found (OneMayRefuse g.K.Keeper.raise_gives g.K.Keeper.kept_gives c.args.plant.value c.args.keepers.items) _ c.from_residual.ensures.1 c.in_err-book.ensures.refused

pub returns-in_err-report-clause-fault : goal.returns-in_err-report-clause-fault
returns-in_err-report-clause-fault g c =
    let left = c.in_ok-book.field-0 in
    let found = c.in_err-report.field-0.0 in
    kept_fault found (IsRunFault c.args.plant.value c.args.max_number c.args.commands.now) _ c.from_residual-in_err-report.ensures.1
    (collect_refused c.args.plant.value c.deref.result.now c.args.max_number c.args.commands.now left.book left.journals.items left.faults.items found c.deref.ensures c.entries-entries.ensures.fit
    c.in_ok-book.ensures.lawful c.in_err-report.ensures.fault)

pub returns-in_err-report-clause-refused : goal.returns-in_err-report-clause-refused
returns-in_err-report-clause-refused g c =
    let found = c.in_err-report.field-0.0 in
    let left = c.in_ok-book.field-0 in
    kept_fault found (OneMayRefuse g.K.Keeper.raise_gives g.K.Keeper.kept_gives c.args.plant.value c.args.keepers.items) _ c.from_residual-in_err-report.ensures.1
    (none_collected found g.K.Keeper.raise_gives g.K.Keeper.kept_gives c.args.plant.value c.args.keepers.items c.deref.result.now c.args.commands.now left.book left.journals.items left.faults.items c.in_err-report.ensures.fault)

pub returns-clause-begun : goal.returns-clause-begun
returns-clause-begun g c = subst (BeginAbove g.K.Keeper.last c.args.keepers.items) (sym c.in_ok-report.ensures.kept.1) c.in_ok-book.ensures.begun

pub returns-clause-given : goal.returns-clause-given
returns-clause-given g c = subst (BeginAsRaised g.K.Keeper.raise_gives c.args.keepers.items) (sym c.in_ok-report.ensures.kept.1) c.in_ok-book.ensures.given

pub returns-clause-opened : goal.returns-clause-opened
returns-clause-opened g c = subst (OpenAsTold g.K.Keeper.kept_gives c.args.plant.value c.args.keepers.items) (sym c.in_ok-report.ensures.kept.1) c.in_ok-book.ensures.opened

pub returns-clause-kept : goal.returns-clause-kept
returns-clause-kept g c =
    let left = c.in_ok-book.field-0 in
    let report = c.in_ok-report.report in
    subst (KeepAllLeft g.K.Keeper.last g.K.Keeper.kept_gives c.args.plant.value report.node_faults left.keepers.items) (sym c.in_ok-report.ensures.kept.1)
    (all_reported g.K.Keeper.last g.K.Keeper.kept_gives c.args.plant.value left.faults.items report.node_faults left.keepers.items left.journals.items c.in_ok-report.ensures.noted.told c.in_ok-book.ensures.kept)

pub returns-in_err-book-clause-later : goal.returns-in_err-book-clause-later
returns-in_err-book-clause-later g c =
    kept_fault c.in_err-book.field-0.0 (ComesAfterFirst g.K.Keeper.raise_gives c.args.keepers.items) _ c.from_residual.ensures.1 c.in_err-book.ensures.later

pub returns-in_err-report-clause-later : goal.returns-in_err-report-clause-later
returns-in_err-report-clause-later g c =
    kept_fault c.in_err-report.field-0.0 (ComesAfterFirst g.K.Keeper.raise_gives c.args.keepers.items) _ c.from_residual-in_err-report.ensures.1 (λ other. c.in_ok-book.ensures.may)

-- The report is written whole or in part.
use Rattle.std.proofs.Common.{true, ap, ◌∙◌}
use Rattle.std.proofs.KnownBytes.{Appends-trans}
use Rattle.lists.proofs.Results.{kept_fault}
use Rattle.text_lines.specs.declared.send_fault.SendFault.TheVariants.{Write, Memory}
use Rattle.run_texts.specs.ReportText.{report_lines, replay_line, TellsPart}
use Rattle.run_texts.proofs.ReportTelling.{some_replay, lines_partly, lines_alone, last_partly, faulty}
use Rattle.node_reports.specs.Reports.{setting_of}
use Rattle.run_texts.proofs.Replaying.{entries_of_plant}
use Rattle.run_texts.proofs.telling.tell_report.Goals as goal

pub replay-requires-clause-of_plant : goal.replay-requires-clause-of_plant
replay-requires-clause-of_plant g c = entries_of_plant (setting_of c.args.plant.value 4294967295 c.args.report.now.journals) c.args.report.now.book.entries c.requires.made_again

pub returns-in_err-write_report-clause-fault : goal.returns-in_err-write_report-clause-fault
returns-in_err-write_report-clause-fault g c =
    let plant = c.args.plant.value in
    let report = c.args.report.now in
    kept_fault _ (TellsPart plant report _ _) _ c.from_residual.ensures.1 (lines_partly (report_lines plant report) (replay_line true) _ _ _ some_replay (rw c.deref.ensures at c.in_err-write_report.ensures.part))

pub returns-in_err-equal-clause-fault : goal.returns-in_err-equal-clause-fault
returns-in_err-equal-clause-fault g c =
    let plant = c.args.plant.value in
    let report = c.args.report.now in
    kept_fault Memory (TellsPart plant report _ _) _ c.from_residual-in_err-equal.ensures.1 (lines_alone (report_lines plant report) (replay_line true) _ _ (rw c.deref.ensures at c.in_ok-write_report.ensures.ok))

pub returns-in_err-write_text-clause-fault : goal.returns-in_err-write_text-clause-fault
returns-in_err-write_text-clause-fault g c =
    let plant = c.args.plant.value in
    let report = c.args.report.now in
    let line = c.replay_line.ensures ∙ ap replay_line (c.in_ok-equal.ensures.equal (rw c.as_slice.ensures c.requires.again)) in
    let part = rw line at c.in_err-write_text.ensures.prefix in
    kept_fault Write (TellsPart plant report _ _) _ c.from_residual-in_err-write_text.ensures.1
    (last_partly (report_lines plant report) (replay_line true) _ _ _ (rw c.deref.ensures at c.in_ok-write_report.ensures.ok) part)

pub returns-clause-ok : goal.returns-clause-ok
returns-clause-ok g c =
    let plant = c.args.plant.value in
    let report = c.args.report.now in
    let line = c.replay_line.ensures ∙ ap replay_line (c.in_ok-equal.ensures.equal (rw c.as_slice.ensures c.requires.again)) in
    record {
      appended = Appends-trans _ _ _ (report_lines plant report) _ (rw c.deref.ensures at c.in_ok-write_report.ensures.ok) (rw line at c.in_ok-write_text.ensures.whole);
      faulty_is = faulty report.node_faults c.is_empty.result (rw c.as_slice-2.ensures at c.is_empty.ensures);
    }

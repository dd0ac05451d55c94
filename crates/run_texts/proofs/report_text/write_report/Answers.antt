-- The three parts of the lines, one after the other.
use Rattle.std.proofs.Common.{◌++◌}
use Rattle.std.specs.List.{flat_map}
use Rattle.std.proofs.KnownBytes.{Appends-trans}
use Rattle.run_texts.specs.ReportText.{entry_lines, unanswered_line, fault_line}
use Rattle.text_lines.proofs.Sending.{on_err, part_of_first, part_of_second, then_ok, then_part}
use Rattle.run_texts.proofs.report_text.write_report.Goals as goal

pub returns-in_err-write_entries-clause-part : goal.returns-in_err-write_entries-clause-part
returns-in_err-write_entries-clause-part g c =
    let r = c.args.report.now in
    let entries = entry_lines c.args.plant.now 1 r.book.entries in
    let unanswered = flat_map unanswered_line r.unanswered in
    on_err _ (part_of_first (entries ++ unanswered) (flat_map (fault_line c.args.plant.now) r.node_faults) _ _ (part_of_first entries unanswered _ _ (rw c.entries.ensures.value at c.in_err-write_entries.ensures.part)))

pub returns-in_err-write_unanswered-clause-part : goal.returns-in_err-write_unanswered-clause-part
returns-in_err-write_unanswered-clause-part g c =
    let r = c.args.report.now in
    let entries = entry_lines c.args.plant.now 1 r.book.entries in
    let unanswered = flat_map unanswered_line r.unanswered in
    on_err _ (part_of_first (entries ++ unanswered) (flat_map (fault_line c.args.plant.now) r.node_faults) _ _
    (part_of_second entries unanswered _ _ _ (rw c.entries.ensures.value at c.in_ok-write_entries.ensures.ok) (rw c.as_slice.ensures at c.in_err-write_unanswered.ensures.part)))

pub returns-clause-ok : goal.returns-clause-ok
returns-clause-ok g c =
    let r = c.args.report.now in
    let entries = entry_lines c.args.plant.now 1 r.book.entries in
    let unanswered = flat_map unanswered_line r.unanswered in
    let two = Appends-trans _ _ _ entries unanswered (rw c.entries.ensures.value at c.in_ok-write_entries.ensures.ok) (rw c.as_slice.ensures at c.in_ok-write_unanswered.ensures.ok) in
    then_ok c.write_faults.result (entries ++ unanswered) (flat_map (fault_line c.args.plant.now) r.node_faults) _ _ _ two (rw c.as_slice-2.ensures at c.write_faults.ensures.ok)

pub returns-clause-part : goal.returns-clause-part
returns-clause-part g c =
    let r = c.args.report.now in
    let entries = entry_lines c.args.plant.now 1 r.book.entries in
    let unanswered = flat_map unanswered_line r.unanswered in
    let two = Appends-trans _ _ _ entries unanswered (rw c.entries.ensures.value at c.in_ok-write_entries.ensures.ok) (rw c.as_slice.ensures at c.in_ok-write_unanswered.ensures.ok) in
    then_part c.write_faults.result (entries ++ unanswered) (flat_map (fault_line c.args.plant.now) r.node_faults) _ _ _ two (rw c.as_slice-2.ensures at c.write_faults.ensures.part)

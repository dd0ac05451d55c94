-- The three parts of the lines, one after the other.
use Rattle.std.proofs.Common.{◌++◌}
use Rattle.std.specs.List.{flat_map}
use Rattle.std.proofs.KnownBytes.{Appends-trans}
use Rattle.run_texts.specs.ReportText.{entry_lines}
use Rattle.run_texts.specs.AuditText.{unshown_line, without_line}
use Rattle.text_lines.proofs.Sending.{on_err, part_of_first, part_of_second, then_ok, then_part}
use Rattle.run_texts.proofs.audit_text.write_audit.Goals as write_audit_goals

pub returns-in_err-write_entries-clause-part : write_audit_goals.returns-in_err-write_entries-clause-part
returns-in_err-write_entries-clause-part g c =
    let a = c.args.audited.now in
    let entries = entry_lines c.args.plant.now 1 a.book.entries in
    let unshown = flat_map (unshown_line c.args.plant.now c.args.files.now) a.unshown.items in
    on_err _ (part_of_first (entries ++ unshown) (flat_map (without_line c.args.plant.now) a.without.items) _ _ (part_of_first entries unshown _ _ (rw c.entries.ensures.value at c.in_err-write_entries.ensures.part)))

pub returns-in_err-write_unshown-clause-part : write_audit_goals.returns-in_err-write_unshown-clause-part
returns-in_err-write_unshown-clause-part g c =
    let a = c.args.audited.now in
    let entries = entry_lines c.args.plant.now 1 a.book.entries in
    let unshown = flat_map (unshown_line c.args.plant.now c.args.files.now) a.unshown.items in
    on_err _ (part_of_first (entries ++ unshown) (flat_map (without_line c.args.plant.now) a.without.items) _ _
    (part_of_second entries unshown _ _ _ (rw c.entries.ensures.value at c.in_ok-write_entries.ensures.ok) (rw c.as_slice.ensures.value at c.in_err-write_unshown.ensures.part)))

pub returns-clause-ok : write_audit_goals.returns-clause-ok
returns-clause-ok g c =
    let a = c.args.audited.now in
    let entries = entry_lines c.args.plant.now 1 a.book.entries in
    let unshown = flat_map (unshown_line c.args.plant.now c.args.files.now) a.unshown.items in
    let two = Appends-trans _ _ _ entries unshown (rw c.entries.ensures.value at c.in_ok-write_entries.ensures.ok) (rw c.as_slice.ensures.value at c.in_ok-write_unshown.ensures.ok) in
    then_ok c.write_without.result (entries ++ unshown) (flat_map (without_line c.args.plant.now) a.without.items) _ _ _ two (rw c.as_slice-2.ensures.value at c.write_without.ensures.ok)

pub returns-clause-part : write_audit_goals.returns-clause-part
returns-clause-part g c =
    let a = c.args.audited.now in
    let entries = entry_lines c.args.plant.now 1 a.book.entries in
    let unshown = flat_map (unshown_line c.args.plant.now c.args.files.now) a.unshown.items in
    let two = Appends-trans _ _ _ entries unshown (rw c.entries.ensures.value at c.in_ok-write_entries.ensures.ok) (rw c.as_slice.ensures.value at c.in_ok-write_unshown.ensures.ok) in
    then_part c.write_without.result (entries ++ unshown) (flat_map (without_line c.args.plant.now) a.without.items) _ _ _ two (rw c.as_slice-2.ensures.value at c.write_without.ensures.part)

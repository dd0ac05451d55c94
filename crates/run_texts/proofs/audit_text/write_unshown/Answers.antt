use Rattle.text_lines.proofs.Sending.{none_made, sends_on, part_of_less, lines_unmade, lines_unsent, line_made}
use Rattle.run_texts.specs.AuditText.{unshown_line}
use Rattle.run_texts.proofs.audit_text.write_unshown.Goals as write_unshown_goals

pub loop-found-init : write_unshown_goals.loop-found-init
loop-found-init g c = none_made _ _ c.new-lines.ensures.bytes

pub returns-in_err-push_unshown-clause-part : write_unshown_goals.returns-in_err-push_unshown-clause-part
returns-in_err-push_unshown-clause-part g c = lines_unmade (unshown_line c.args.plant.now c.args.files.now) c.args.unshown.now _ _ _ _ _ c.loop-found.invariant

pub returns-in_err-send_full-clause-part : write_unshown_goals.returns-in_err-send_full-clause-part
returns-in_err-send_full-clause-part g c =
    let made = line_made (unshown_line c.args.plant.now c.args.files.now) c.args.unshown.now _ _ _ _ _ _ c.loop-found-test.true c.loop-found.invariant c.in_ok-push_unshown.ensures in
    lines_unsent (unshown_line c.args.plant.now c.args.files.now) c.args.unshown.now _ _ _ _ _ _ made (part_of_less _ _ _ c.in_err-send_full.ensures.less)

pub loop-found-preserved : write_unshown_goals.loop-found-preserved
loop-found-preserved g c =
    let made = line_made (unshown_line c.args.plant.now c.args.files.now) c.args.unshown.now _ _ _ _ _ _ c.loop-found-test.true c.loop-found.invariant c.in_ok-push_unshown.ensures in
    sends_on _ _ _ _ _ _ made c.in_ok-send_full.ensures.ok

pub returns-in_err-write_text-clause-part : write_unshown_goals.returns-in_err-write_text-clause-part
returns-in_err-write_text-clause-part g c =
    lines_unsent (unshown_line c.args.plant.now c.args.files.now) c.args.unshown.now _ _ _ _ _ _ c.loop-found.invariant (part_of_less _ _ _ (rw c.as_str.ensures.value at c.in_err-write_text.ensures.prefix))

use Rattle.text_lines.proofs.Sending.{none_made, sends_on, part_of_less, lines_unmade, lines_unsent, line_made}
use Rattle.run_texts.specs.AuditText.{without_line}
use Rattle.run_texts.proofs.audit_text.write_without.Goals as goal

pub loop-resource-init : goal.loop-resource-init
loop-resource-init g c = none_made _ _ c.new-lines.ensures.bytes

pub returns-in_err-push_without-clause-part : goal.returns-in_err-push_without-clause-part
returns-in_err-push_without-clause-part g c = lines_unmade (without_line c.args.plant.now) c.args.without.now _ _ _ _ _ c.loop-resource.invariant

pub returns-in_err-send_full-clause-part : goal.returns-in_err-send_full-clause-part
returns-in_err-send_full-clause-part g c =
    let made = line_made (without_line c.args.plant.now) c.args.without.now _ _ _ _ _ _ c.loop-resource-test.true c.loop-resource.invariant c.in_ok-push_without.ensures in
    lines_unsent (without_line c.args.plant.now) c.args.without.now _ _ _ _ _ _ made (part_of_less _ _ _ c.in_err-send_full.ensures.less)

pub loop-resource-preserved : goal.loop-resource-preserved
loop-resource-preserved g c =
    let made = line_made (without_line c.args.plant.now) c.args.without.now _ _ _ _ _ _ c.loop-resource-test.true c.loop-resource.invariant c.in_ok-push_without.ensures in
    sends_on _ _ _ _ _ _ made c.in_ok-send_full.ensures.ok

pub returns-in_err-write_text-clause-part : goal.returns-in_err-write_text-clause-part
returns-in_err-write_text-clause-part g c =
    lines_unsent (without_line c.args.plant.now) c.args.without.now _ _ _ _ _ _ c.loop-resource.invariant (part_of_less _ _ _ (rw c.as_str.ensures.value at c.in_err-write_text.ensures.prefix))

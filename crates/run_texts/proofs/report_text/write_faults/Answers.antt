use Rattle.text_lines.proofs.Sending.{none_made, sends_on, part_of_less, lines_unmade, lines_unsent, line_made}
use Rattle.run_texts.specs.ReportText.{fault_line}
use Rattle.run_texts.proofs.report_text.write_faults.Goals as write_faults_goals

pub loop-fault-init : write_faults_goals.loop-fault-init
loop-fault-init g c = none_made _ _ c.new-lines.ensures.bytes

pub returns-in_err-push_fault-clause-part : write_faults_goals.returns-in_err-push_fault-clause-part
returns-in_err-push_fault-clause-part g c = lines_unmade (fault_line c.args.plant.now) c.args.faults.now _ _ _ _ _ c.loop-fault.invariant

pub returns-in_err-send_full-clause-part : write_faults_goals.returns-in_err-send_full-clause-part
returns-in_err-send_full-clause-part g c =
    let made = line_made (fault_line c.args.plant.now) c.args.faults.now _ _ _ _ _ _ c.loop-fault-test.true c.loop-fault.invariant c.in_ok-push_fault.ensures in
    lines_unsent (fault_line c.args.plant.now) c.args.faults.now _ _ _ _ _ _ made (part_of_less _ _ _ c.in_err-send_full.ensures.less)

pub loop-fault-preserved : write_faults_goals.loop-fault-preserved
loop-fault-preserved g c =
    let made = line_made (fault_line c.args.plant.now) c.args.faults.now _ _ _ _ _ _ c.loop-fault-test.true c.loop-fault.invariant c.in_ok-push_fault.ensures in
    sends_on _ _ _ _ _ _ made c.in_ok-send_full.ensures.ok

pub returns-in_err-write_text-clause-part : write_faults_goals.returns-in_err-write_text-clause-part
returns-in_err-write_text-clause-part g c =
    lines_unsent (fault_line c.args.plant.now) c.args.faults.now _ _ _ _ _ _ c.loop-fault.invariant (part_of_less _ _ _ (rw c.as_str.ensures.value at c.in_err-write_text.ensures.prefix))

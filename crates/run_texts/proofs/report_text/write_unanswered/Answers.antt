use Rattle.text_lines.proofs.Sending.{none_made, sends_on, part_of_less, lines_unmade, lines_unsent, line_made}
use Rattle.run_texts.specs.ReportText.{unanswered_line}
use Rattle.run_texts.proofs.report_text.write_unanswered.Goals as write_unanswered_goals

pub loop-ticket-init : write_unanswered_goals.loop-ticket-init
loop-ticket-init g c = none_made _ _ c.new-lines.ensures.bytes

pub returns-in_err-push_unanswered-clause-part : write_unanswered_goals.returns-in_err-push_unanswered-clause-part
returns-in_err-push_unanswered-clause-part g c = lines_unmade unanswered_line c.args.tickets.now _ _ _ _ _ c.loop-ticket.invariant

pub returns-in_err-send_full-clause-part : write_unanswered_goals.returns-in_err-send_full-clause-part
returns-in_err-send_full-clause-part g c =
    let made = line_made unanswered_line c.args.tickets.now _ _ _ _ _ _ c.loop-ticket-test.true c.loop-ticket.invariant c.in_ok-push_unanswered.ensures in
    lines_unsent unanswered_line c.args.tickets.now _ _ _ _ _ _ made (part_of_less _ _ _ c.in_err-send_full.ensures.less)

pub loop-ticket-preserved : write_unanswered_goals.loop-ticket-preserved
loop-ticket-preserved g c =
    let made = line_made unanswered_line c.args.tickets.now _ _ _ _ _ _ c.loop-ticket-test.true c.loop-ticket.invariant c.in_ok-push_unanswered.ensures in
    sends_on _ _ _ _ _ _ made c.in_ok-send_full.ensures.ok

pub returns-in_err-write_text-clause-part : write_unanswered_goals.returns-in_err-write_text-clause-part
returns-in_err-write_text-clause-part g c =
    lines_unsent unanswered_line c.args.tickets.now _ _ _ _ _ _ c.loop-ticket.invariant (part_of_less _ _ _ (rw c.as_str.ensures.value at c.in_err-write_text.ensures.prefix))

use Rattle.std.specs.List.{enumerate_from}
use Rattle.lists.proofs.Results.{kept_fault}
use Rattle.text_lines.specs.Sending.{Stops}
use Rattle.text_lines.specs.declared.send_fault.SendFault.TheVariants.{Write, Memory}
use Rattle.text_lines.proofs.Sending.{none_made, sends_on, part_sent, less_left, lines_parted}
use Rattle.text_commands.specs.PlanText.{entry_lines, plan_lines}
use Rattle.text_commands.proofs.PlanLines.{all_written, entry_made}
use Rattle.text_commands.proofs.plan_command.write_dues.Goals as goal

pub loop-i-init : goal.loop-i-init
loop-i-init g c = none_made _ _ c.new-lines.ensures.bytes

pub returns-in_err-push_entry-clause-stopped : goal.returns-in_err-push_entry-clause-stopped
returns-in_err-push_entry-clause-stopped g c =
    kept_fault Memory (λ fault. Stops fault (plan_lines c.args.plant.now c.args.form c.args.dues.now) _ _) _ c.from_residual.ensures.1
    (part_sent _ _ _ _ _ _ (lines_parted (entry_lines c.args.plant.now c.args.form) (enumerate_from 1 c.args.dues.now) _) c.loop-i.invariant)

pub returns-in_err-send_full-clause-stopped : goal.returns-in_err-send_full-clause-stopped
returns-in_err-send_full-clause-stopped g c =
    let made = entry_made c.args.plant.now c.args.form c.args.dues.now _ _ _ _ _ _ c.loop-i-test.true c.loop-i.invariant c.in_ok-push_entry.ensures in
    kept_fault Write (λ fault. Stops fault (plan_lines c.args.plant.now c.args.form c.args.dues.now) _ _) _ c.from_residual-in_err-send_full.ensures.1
    (less_left _ _ _ _ _ _ _ (lines_parted (entry_lines c.args.plant.now c.args.form) (enumerate_from 1 c.args.dues.now) _) made c.in_err-send_full.ensures.less)

pub loop-i-preserved : goal.loop-i-preserved
loop-i-preserved g c =
    let made = entry_made c.args.plant.now c.args.form c.args.dues.now _ _ _ _ _ _ c.loop-i-test.true c.loop-i.invariant c.in_ok-push_entry.ensures in
    sends_on _ _ _ _ _ _ made c.in_ok-send_full.ensures.ok

pub returns-in_err-write_text-clause-stopped : goal.returns-in_err-write_text-clause-stopped
returns-in_err-write_text-clause-stopped g c =
    kept_fault Write (λ fault. Stops fault (plan_lines c.args.plant.now c.args.form c.args.dues.now) _ _) _ c.from_residual-in_err-write_text.ensures.1
    (less_left _ _ _ _ _ _ _ (lines_parted (entry_lines c.args.plant.now c.args.form) (enumerate_from 1 c.args.dues.now) _) c.loop-i.invariant (rw c.as_str.ensures.value at c.in_err-write_text.ensures.prefix))

pub returns-clause-ok : goal.returns-clause-ok
returns-clause-ok g c =
    all_written c.args.plant.now c.args.form c.args.dues.now c.loop-i.i _ _ _ _ c.loop-i-test.false c.loop-i.invariant (rw c.as_str.ensures.value at c.in_ok-write_text.ensures.whole)

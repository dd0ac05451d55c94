-- What was audited is told whole or in part.
use Rattle.plc_main.specs.AuditCommand.{IsAudit}
use Rattle.plc_main.proofs.AuditExplaining.{told_partly}
use Rattle.plc_main.proofs.audit_command.audit_text.Goals as goal

pub returns-in_err-tell_audit-clause-fault : goal.returns-in_err-tell_audit-clause-fault
returns-in_err-tell_audit-clause-fault g c =
    let a = c.in_ok-audited.ensures in
    let is_audit : IsAudit c.args.plant.value c.args.files.now c.in_ok-audited.audited = record {
      told = rw c.in_ok-shared.ensures at a.told;
      fitting = a.fitting;
      journals = rw c.in_ok-shared.ensures at a.journals;
      made = a.made;
      again = rw c.in_ok-shared.ensures at a.again;
      made_again = rw c.in_ok-shared.ensures at a.made_again;
      delivered = a.delivered;
      heard = a.heard;
      few = a.few;
    } in
    told_partly c.args.plant.value c.args.files.now _ _ c.in_ok-audited.audited _ _ c.from_residual-in_err-tell_audit.ensures.1 is_audit c.in_err-tell_audit.ensures.fault

pub tell_audit-requires-clause-journals : goal.tell_audit-requires-clause-journals
tell_audit-requires-clause-journals g c = rw c.in_ok-shared.ensures at c.in_ok-audited.ensures.journals

pub tell_audit-requires-clause-again : goal.tell_audit-requires-clause-again
tell_audit-requires-clause-again g c = rw c.in_ok-shared.ensures at c.in_ok-audited.ensures.again

pub tell_audit-requires-clause-made_again : goal.tell_audit-requires-clause-made_again
tell_audit-requires-clause-made_again g c = rw c.in_ok-shared.ensures at c.in_ok-audited.ensures.made_again

pub returns-clause-ok : goal.returns-clause-ok
returns-clause-ok g c =
    let a = c.in_ok-audited.ensures in
    let is_audit : IsAudit c.args.plant.value c.args.files.now c.in_ok-audited.audited = record {
      told = rw c.in_ok-shared.ensures at a.told;
      fitting = a.fitting;
      journals = rw c.in_ok-shared.ensures at a.journals;
      made = a.made;
      again = rw c.in_ok-shared.ensures at a.again;
      made_again = rw c.in_ok-shared.ensures at a.made_again;
      delivered = a.delivered;
      heard = a.heard;
      few = a.few;
    } in
    record { audited = c.in_ok-audited.audited; is_audit = is_audit; told = c.in_ok-tell_audit.ensures.ok }

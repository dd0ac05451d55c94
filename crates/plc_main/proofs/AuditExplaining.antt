-- Why `audit_text` ended, from why the telling did.
use Rattle.std.proofs.Common.{◌≡◌, ℕ, List, Option, Result, IfErr, inr}
use Rattle.std.specs.Result.{IsErrAnd}
use Rattle.lists.proofs.Results.{kept_fault}
use Rattle.plant.specs.PlantValue.{PlantValue}
use Rattle.audit.specs.declared.journal_file.JournalFile.{JournalFile}
use Rattle.audit.specs.declared.auditing.Audited.{Audited}
use Rattle.console.specs.declared.command_fault.CommandFault.{CommandFault}
use Rattle.console.specs.Giving.{command_fault}
use Rattle.text_commands.specs.Giving.{sending_fault}
use Rattle.text_lines.specs.declared.send_fault.SendFault.{SendFault}
use Rattle.text_lines.specs.declared.send_fault.SendFault.TheVariants as sending
use Rattle.run_texts.specs.AuditText.{TellsAuditPart}
use Rattle.plc_main.specs.AuditCommand.{IsAudit, ExplainsAudit}

told_of : (plant : PlantValue) (files : List JournalFile) (old new : Option (List ℕ)) (audited : Audited) (found : SendFault) → IsAudit plant files audited → TellsAuditPart plant files audited old new found
    → ExplainsAudit plant files old new (command_fault (sending_fault found))
told_of plant files old new audited sending.Write is part = record { audited = audited; is_audit = is; sent = part }
told_of plant files old new audited sending.Memory is part = inr (record { audited = audited; is_audit = is; sent = part })

-- the audit was told in part
pub told_partly : {T : Type 0} (plant : PlantValue) (files : List JournalFile) (old new : Option (List ℕ)) (audited : Audited) (found : SendFault) (r : Result T CommandFault) → IsErrAnd r (λ fault. fault ≡ command_fault (sending_fault found))
    → IsAudit plant files audited → TellsAuditPart plant files audited old new found → IfErr r (ExplainsAudit plant files old new)
told_partly plant files old new audited found r given is part =
    kept_fault (command_fault (sending_fault found)) (ExplainsAudit plant files old new) r given (told_of plant files old new audited found is part)

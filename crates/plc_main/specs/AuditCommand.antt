-- What `plc audit` writes.
use Rattle.std.specs.Prelude.{◌≡◌, ◌≤◌, ℕ, ◌⊎◌, Bool, List, Option, map, string_bytes}
use Rattle.std.specs.Io.KnownBytes.{Keeps}
use Rattle.plant.specs.PlantValue.{PlantValue}
use Rattle.node_reports.specs.Reports.{IsFittingBook, AreJournalsOf, AreInBook, RunsAgain, CanBeMadeAgain}
use Rattle.audit.specs.declared.journal_file.JournalFile.{JournalFile}
use Rattle.audit.specs.Delivered.{AreDelivered, AreHeardTruly}
use Rattle.audit.specs.Reasons.{skipped_in}
use Rattle.audit.specs.Told.{AreToldBy}
use Rattle.audit.specs.declared.auditing.Audited.{Audited}
use Rattle.console.specs.declared.command_fault.CommandFault.{CommandFault}
use Rattle.console.specs.declared.command_fault.CommandFault.TheVariants.{Text, Word, Write, Run, Memory}
use Rattle.text_lines.specs.declared.send_fault.SendFault.TheVariants as sending
use Rattle.run_texts.specs.AuditText.{TellsAudit, TellsAuditPart}

-- the journals have these names, in order
abbrev pub AreNamed : List JournalFile → List (List ℕ) → Type 0
AreNamed files names = map (λ (f : JournalFile). string_bytes f.name) files ≡ names

-- What an audit of journals is: what is shown is what they tell, and what isn't is told. Its book fits, its journals are
-- lawful and made the book's entries, which are a run and could have been made one after the other, each evaluation that a
-- resource received is an entry, each incarnation of which one heard can have been, and few were skipped.
pub record IsAudit (plant : PlantValue) (files : List JournalFile) (a : Audited) : Type 0 where
  pub told : AreToldBy plant files a
  pub fitting : IsFittingBook a.book a.journals
  pub journals : AreJournalsOf plant 4294967295 a.journals
  pub made : AreInBook a.book.entries a.journals
  pub again : RunsAgain plant 4294967295 a.book a.journals
  pub made_again : CanBeMadeAgain plant 4294967295 a.book a.journals
  pub delivered : AreDelivered a.book.entries a.journals
  pub heard : AreHeardTruly a.journals
  pub few : skipped_in a.journals ≤ 1000000

-- The lines of an audit of these files were written, and last `REPLAY equal`, or, where not all is shown, `REPLAY of what is
-- shown equal`; the answer is whether all is shown.
pub record WritesAudit (plant : PlantValue) (files : List JournalFile) (old new : Option (List ℕ)) (shown : Bool)
    : Type 0 where
  pub audited : Audited
  pub is_audit : IsAudit plant files audited
  pub told : TellsAudit plant files audited old new shown

-- a beginning of the text of an audit of these files was written, and not all of it
pub record WritesAuditLess (plant : PlantValue) (files : List JournalFile) (old new : Option (List ℕ)) : Type 0 where
  pub audited : Audited
  pub is_audit : IsAudit plant files audited
  pub sent : TellsAuditPart plant files audited old new sending.Write

-- no more than a beginning of the lines of an audit of these files was written, and nothing of the last line
pub record WritesAuditPart (plant : PlantValue) (files : List JournalFile) (old new : Option (List ℕ)) : Type 0 where
  pub audited : Audited
  pub is_audit : IsAudit plant files audited
  pub sent : TellsAuditPart plant files audited old new sending.Memory

-- why there was a fault, and what was written before; after want of memory there is no last line
abbrev pub ExplainsAudit :
    PlantValue → List JournalFile → Option (List ℕ) → Option (List ℕ) → CommandFault → Type 0
ExplainsAudit plant files old new (Text fault) = ⊥
ExplainsAudit plant files old new (Word fault) = ⊥
ExplainsAudit plant files old new Write = WritesAuditLess plant files old new
ExplainsAudit plant files old new (Run fault) = ⊥
ExplainsAudit plant files old new Memory = Keeps old new ⊎ WritesAuditPart plant files old new

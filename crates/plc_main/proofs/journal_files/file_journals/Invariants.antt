use Rattle.std.proofs.Common.{take}
use Rattle.text_commands.specs.Rows.{texts}
use Rattle.plc_main.specs.AuditCommand.{AreNamed}
use Rattle.plc_main.proofs.journal_files.file_journals.Given as goal

abbrev pub invariant-loop-name : goal.invariant-loop-name
invariant-loop-name g l = AreNamed l.journals.items (texts (take l.name-index l.names))

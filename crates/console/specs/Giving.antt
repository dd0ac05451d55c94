-- How a fault of a lower crate becomes a fault of a command.
use Rattle.std.specs.Prelude.{◌≡◌, ◌⊎◌}
use Rattle.text_commands.specs.declared.text_command_fault.TextCommandFault.{TextCommandFault}
use Rattle.text_commands.specs.declared.text_command_fault.TextCommandFault.TheVariants as text
use Rattle.node_reports.specs.declared.run_fault.RunFault.{RunFault}
use Rattle.node_reports.specs.declared.run_fault.RunFault.TheVariants as run
use Rattle.console.specs.declared.command_fault.CommandFault.{CommandFault}
use Rattle.console.specs.declared.command_fault.CommandFault.TheVariants.{Text, Word, Write, Run, Memory}

-- a fault of a command that needs one text is the same one of the program
abbrev pub command_fault : TextCommandFault → CommandFault
command_fault (text.Text fault) = Text fault
command_fault (text.Word fault) = Word fault
command_fault text.Write = Write
command_fault text.Memory = Memory

-- want of memory is one fault; else the threads gave no report for this
abbrev pub GivenForRun : RunFault → CommandFault → Type 0
GivenForRun refusal fault =
    ((refusal ≡ run.Memory) × (fault ≡ Memory)) ⊎ ((refusal ≡ run.Memory → ⊥) × (fault ≡ Run refusal))

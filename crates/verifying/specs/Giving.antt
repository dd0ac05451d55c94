-- How a fault of a lower crate becomes one of `plc verify`.
use Rattle.verifying.specs.declared.verify_fault.VerifyFault.{VerifyFault}
use Rattle.verifying.specs.declared.verify_fault.VerifyFault.TheVariants.{Command}
use Rattle.text_commands.specs.declared.text_command_fault.TextCommandFault.TheVariants.{Memory, Write}

-- want of memory
abbrev pub no_memory : VerifyFault
no_memory = Command Memory

-- the output failed
abbrev pub no_output : VerifyFault
no_output = Command Write

-- How a refusal by a lower crate becomes a fault of a command.
use Rattle.std.specs.Prelude.{◌≡◌, ◌⊎◌}
use Rattle.text_lines.specs.declared.send_fault.SendFault.{SendFault}
use Rattle.text_lines.specs.declared.send_fault.SendFault.TheVariants as sending
use Rattle.text_commands.specs.declared.text_command_fault.TextCommandFault.{TextCommandFault}
use Rattle.text_commands.specs.declared.text_command_fault.TextCommandFault.TheVariants.{Text, Write, Memory}
use Rattle.text_commands.specs.declared.text_fault.TextFault.{TextFault}

-- want of memory is one fault, whoever meets it; else the text is refused for this
abbrev pub GivenFor : Type 0 → TextFault → TextCommandFault → Type 0
GivenFor OfMemory refusal fault = (OfMemory × (fault ≡ Memory)) ⊎ ((OfMemory → ⊥) × (fault ≡ Text refusal))

-- why lines didn't go out whole
abbrev pub sending_fault : SendFault → TextCommandFault
sending_fault sending.Write = Write
sending_fault sending.Memory = Memory

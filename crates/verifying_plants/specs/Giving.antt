-- How a fault of a lower crate becomes one of `plc verify`.
use Rattle.verifying_plants.specs.declared.verify_plant_fault.VerifyPlantFault.{VerifyPlantFault}
use Rattle.verifying_plants.specs.declared.verify_plant_fault.VerifyPlantFault.TheVariants.{Command}
use Rattle.text_commands.specs.declared.text_command_fault.TextCommandFault.TheVariants.{Memory, Write}

-- want of memory
abbrev pub no_memory : VerifyPlantFault
no_memory = Command Memory

-- the output failed
abbrev pub no_output : VerifyPlantFault
no_output = Command Write

-- The statuses with which the program ends.
use Rattle.std.specs.Prelude.{ℕ, Bool, if◌then◌else◌}
use Rattle.verifying.specs.declared.verify_fault.VerifyFault.{VerifyFault}
use Rattle.verifying.specs.declared.verify_fault.VerifyFault.TheVariants.{Command, Claim, Given, Held, TooManyInputs, NoTime}
use Rattle.verifying_plants.specs.declared.verify_plant_fault.VerifyPlantFault.{VerifyPlantFault}
use Rattle.verifying_plants.specs.declared.verify_plant_fault.VerifyPlantFault.TheVariants.{Command as PlantCommand, Claim as PlantClaim, Given as PlantGiven, Range}
use Rattle.verifying.specs.declared.summary.Summary.{Summary}
use Rattle.verifying.specs.declared.summary.Summary.TheVariants.{AllHold, OneFails, OneUndecided}
use Rattle.console.specs.declared.command_fault.CommandFault.{CommandFault}
use Rattle.console.specs.declared.command_fault.CommandFault.TheVariants.{Text, Word, Write, Run, Memory}
use Rattle.console.specs.Giving.{command_fault}
use Rattle.evaluation.specs.declared.input_fault.InputFault.{InputFault}
use Rattle.evaluation.specs.declared.input_fault.InputFault.TheVariants as input
use Rattle.world.specs.declared.sim_fault.SimFault.{SimFault}
use Rattle.world.specs.declared.sim_fault.SimFault.TheVariants as sim
use Rattle.tested_schedules.specs.declared.live_fault.LiveFault.{LiveFault}
use Rattle.tested_schedules.specs.declared.live_fault.LiveFault.TheVariants as live

-- after claims were answered it is 0 if all hold, 4 if one fails, and 5 if none fails and one is undecided
abbrev pub status_of : Summary → ℕ
status_of AllHold = 0
status_of OneFails = 4
status_of OneUndecided = 5

-- after a fault of a command it is 1 if a text is refused, 2 if a word is, and else 3
abbrev pub status_of_fault : CommandFault → ℕ
status_of_fault (Text fault) = 1
status_of_fault (Word fault) = 2
status_of_fault Write = 3
status_of_fault (Run fault) = 3
status_of_fault Memory = 3

-- after a fault of a question about a drawing it is that of a command's fault, and 2 if a claim or a word is refused, too
-- many inputs are free, or time is wanting
abbrev pub status_of_question : VerifyFault → ℕ
status_of_question (Command fault) = status_of_fault (command_fault fault)
status_of_question (Claim fault) = 2
status_of_question (Given fault) = 2
status_of_question (Held fault) = 2
status_of_question (TooManyInputs free) = 2
status_of_question NoTime = 2

-- after a fault of a question about a plant likewise
abbrev pub status_of_plant_question : VerifyPlantFault → ℕ
status_of_plant_question (PlantCommand fault) = status_of_fault (command_fault fault)
status_of_plant_question (PlantClaim fault) = 2
status_of_plant_question (PlantGiven fault) = 2
status_of_plant_question (Range fault) = 2

-- after a fault of words for field inputs it is 2 if they are refused, and 3 for want of memory
abbrev pub status_of_inputs : InputFault → ℕ
status_of_inputs input.Syntax = 2
status_of_inputs input.Twice = 2
status_of_inputs input.Memory = 3

-- after a schedule was done it is 4 if an expectation was unmet, and else 0
abbrev pub status_of_expectations : Bool → ℕ
status_of_expectations has_unmet = if has_unmet then 4 else 0

-- after a fault of a schedule it is 1 if a line is refused, and else 3
abbrev pub status_of_schedule : SimFault → ℕ
status_of_schedule (sim.Syntax line) = 1
status_of_schedule sim.Write = 3
status_of_schedule sim.Memory = 3

-- after a fault of a schedule that is read line by line it is 1 if a line is refused, and else 3
abbrev pub status_of_lines : LiveFault → ℕ
status_of_lines (live.Syntax line) = 1
status_of_lines (live.TooLong line) = 1
status_of_lines live.Read = 3
status_of_lines live.Write = 3
status_of_lines live.Memory = 3

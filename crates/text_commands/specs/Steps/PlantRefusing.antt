-- Why no plant was read of a text as it stands.
use Rattle.std.specs.Prelude.{ℕ, List}
use Rattle.text_commands.specs.declared.text_command_fault.TextCommandFault.{TextCommandFault}
use Rattle.text_commands.specs.declared.text_command_fault.TextCommandFault.TheVariants.{Text, Word, Write, Memory}
use Rattle.text_commands.specs.declared.text_fault.TextFault.{TextFault}
use Rattle.text_commands.specs.declared.text_fault.TextFault.TheVariants.{Draw, Graph, Bind, Plant, TooLong, Second}
use Rattle.text_commands.specs.CheckText.{IsRefusal}

-- only the reader of plants refuses a text
abbrev pub RefusesAsItStands : List ℕ → TextFault → Type 0
RefusesAsItStands text (Draw fault) = ⊥
RefusesAsItStands text (Graph fault) = ⊥
RefusesAsItStands text (Bind fault) = ⊥
RefusesAsItStands text (Plant fault) = IsRefusal text fault
RefusesAsItStands text TooLong = ⊥
RefusesAsItStands text (Second fault) = ⊥

-- no plant was read: its text is refused, or memory
abbrev pub GivesNoPlantOfText : List ℕ → TextCommandFault → Type 0
GivesNoPlantOfText text (Text fault) = RefusesAsItStands text fault
GivesNoPlantOfText text (Word fault) = ⊥
GivesNoPlantOfText text Write = ⊥
GivesNoPlantOfText text Memory = Unit {0}

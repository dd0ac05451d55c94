-- What `plc check` writes.
use Rattle.std.specs.Prelude.{◌≡◌, ◌≢◌, ◌⊎◌, ℕ, ◌++◌, List, Option, length, codes}
use Rattle.std.specs.Fmt.{decimal}
use Rattle.std.specs.Io.KnownBytes.{Appends, Keeps}
use Rattle.plant.specs.PlantValue.{PlantValue}
use Rattle.plant.specs.Counts.{task_count, program_count, connection_count}
use Rattle.plant.specs.Faults.{IsPlantFault, IsOfBody, IsOfDeclaredName}
use Rattle.plant.specs.PlantText.{IsPlantText, IsNoPlant, IsSyntaxIn, IsBodyFaultIn, IsNameFaultIn}
use Rattle.plant.specs.declared.plant_fault.PlantFault.{PlantFault}
use Rattle.plant.specs.declared.plant_fault.PlantFaultKind.TheVariants as plant
use Rattle.text_lines.specs.Sending.{SendsLess}
use Rattle.text_commands.specs.Comments.{without_comments}
use Rattle.text_commands.specs.declared.text_command_fault.TextCommandFault.{TextCommandFault}
use Rattle.text_commands.specs.declared.text_command_fault.TextCommandFault.TheVariants.{Text, Word, Write, Memory}
use Rattle.text_commands.specs.declared.text_fault.TextFault.{TextFault}
use Rattle.text_commands.specs.declared.text_fault.TextFault.TheVariants.{Draw, Graph, Bind, Plant, TooLong, Second}

-- a line `what n`
abbrev pub count_line : List ℕ → ℕ → List ℕ
count_line what n = what ++ codes " " ++ decimal n ++ codes "\n"

-- four lines: how many resources, tasks, program instances and bound inputs a plant has
abbrev pub check_lines : PlantValue → List ℕ
check_lines plant =
    count_line (codes "resources") (length plant.resources) ++ count_line (codes "tasks") (task_count plant)
    ++ count_line (codes "programs") (program_count plant) ++ count_line (codes "connections") (connection_count plant)

-- The plant of a text: as it stands; or, where that is no plant, with its comments emptied.
abbrev pub IsPlantOf : List ℕ → PlantValue → Type 0
IsPlantOf text plant = IsPlantText text plant ⊎ (IsNoPlant text × IsPlantText (without_comments text) plant)

-- the text is a plant, and its four lines were written
abbrev pub WritesCheck : (text : List ℕ) (old new : Option (List ℕ)) → Type 0
WritesCheck text old new = (plant : PlantValue) × IsPlantOf text plant × Appends old new (check_lines plant)

-- the text is a plant, and a beginning of its four lines was written, not all of them
abbrev pub WritesCheckPart : (text : List ℕ) (old new : Option (List ℕ)) → Type 0
WritesCheckPart text old new = (plant : PlantValue) × IsPlantOf text plant × SendsLess (check_lines plant) old new

-- a refusal of the text of a plant: not want of memory, with what belongs to its kind, and of no faultless text; the
-- fault of a body is that of the first body that is refused, Syntax is that of a text that isn't of the grammar, and any
-- other is of a word or a source of the text
pub record IsRefusal (text : List ℕ) (fault : PlantFault) : Type 0 where
  pub not_memory : fault.kind ≢ plant.Memory
  pub value : IsPlantFault fault
  pub no_plant : IsNoPlant text
  pub syntax : fault.kind ≡ plant.Syntax → IsSyntaxIn text fault
  pub body : IsOfBody fault.kind → IsBodyFaultIn text fault
  pub name : IsOfDeclaredName fault.kind → IsNameFaultIn text fault

-- what is told of a text that is no plant: the fault that it has with its comments emptied
abbrev pub IsToldOf : List ℕ → PlantFault → Type 0
IsToldOf text fault = IsNoPlant text × IsRefusal (without_comments text) fault

-- only the reader of plants refuses a text here
abbrev pub RefusesPlantText : List ℕ → TextFault → Type 0
RefusesPlantText text (Draw fault) = ⊥
RefusesPlantText text (Graph fault) = ⊥
RefusesPlantText text (Bind fault) = ⊥
RefusesPlantText text (Plant fault) = IsToldOf text fault
RefusesPlantText text TooLong = ⊥
RefusesPlantText text (Second fault) = ⊥

-- no plant was read: its text is refused, or memory
abbrev pub GivesNoPlant : List ℕ → TextCommandFault → Type 0
GivesNoPlant text (Text fault) = RefusesPlantText text fault
GivesNoPlant text (Word fault) = ⊥
GivesNoPlant text Write = ⊥
GivesNoPlant text Memory = Unit {0}

-- why there was a fault, and what was written before: nothing but where the output failed
abbrev pub ExplainsCheck : List ℕ → Option (List ℕ) → Option (List ℕ) → TextCommandFault → Type 0
ExplainsCheck text old new (Text fault) = RefusesPlantText text fault × Keeps old new
ExplainsCheck text old new (Word fault) = ⊥
ExplainsCheck text old new Write = WritesCheckPart text old new
ExplainsCheck text old new Memory = Keeps old new

-- What is read from a ladder's source.
use Rattle.std.specs.Prelude.{List, ℕ, Some, None}
use Rattle.std.proofs.Common.{inl, inr, refl}
use Rattle.plant.specs.ProgramText.{IsProgramOfText}
use Rattle.plant.specs.ProgramTypes.{TypeValue}
use Rattle.power_flow.specs.LadderValue.{LadderValue}
use Rattle.text_commands.specs.CheckText.{GivesNoPlant}
use Rattle.text_commands.specs.Sources.{AreRetainedFrom, HoldsOfPlant, IsDrawingFrom, IsLadderFrom, IsLadderOfProgram, RefusesName, RefusesSource, SourceValue}
use Rattle.text_commands.specs.Steps.Refusing.{RefusesLadder}
use Rattle.text_commands.specs.Steps.SecondDrawing.{RefusesLadders}
use Rattle.text_commands.specs.declared.text_command_fault.TextCommandFault.{TextCommandFault}
use Rattle.text_commands.specs.declared.text_command_fault.TextCommandFault.TheVariants.{Text, Word, Write, Memory}

-- the ladder of a source, its drawing, and which of its variables are retained
abbrev pub IsDrawnFrom : SourceValue → LadderValue → List ℕ → List ℕ → Type 0
IsDrawnFrom s ladder drawing retained =
    IsLadderFrom s ladder.declarations ladder.networks × IsDrawingFrom s drawing × AreRetainedFrom s retained

-- no ladder was read: the text or the name is refused, or memory
abbrev pub RefusesFrom : SourceValue → TextCommandFault → Type 0
RefusesFrom s (Text fault) = RefusesSource s fault
RefusesFrom s (Word fault) = RefusesName s fault
RefusesFrom s Write = ⊥
RefusesFrom s Memory = Unit {0}

-- the ladder of a program type that was found
pub found_ladder : (text name : List ℕ) (type : TypeValue) → HoldsOfPlant (λ t. IsProgramOfText t name (Some type)) text
    → HoldsOfPlant (λ t. IsLadderOfProgram t name type.ladder.declarations type.ladder.networks) text
found_ladder text name type (inl found) = inl (record { type = type; found = found; declared = refl; networks_are = refl })
found_ladder text name type (inr (none, found)) = inr (none, record { type = type; found = found; declared = refl; networks_are = refl })

-- a refusal by the reader of drawings is one of the source
pub drawing_not_read : (text : List ℕ) (fault : TextCommandFault) → RefusesLadder text fault → RefusesFrom (record { text = text; program = None; second = None }) fault
drawing_not_read text (Text fault) refused = refused
drawing_not_read text (Word fault) refused = absurd refused
drawing_not_read text Write refused = refused
drawing_not_read text Memory refused = refused

-- so is one by the reader of two drawings
pub both_not_read : (text other : List ℕ) (fault : TextCommandFault) → RefusesLadders text other fault → RefusesFrom (record { text = text; program = None; second = Some other }) fault
both_not_read text other (Text fault) refused = refused
both_not_read text other (Word fault) refused = absurd refused
both_not_read text other Write refused = refused
both_not_read text other Memory refused = refused

-- so is one by the reader of plants
pub plant_not_read : (text name : List ℕ) (fault : TextCommandFault) → GivesNoPlant text fault → RefusesFrom (record { text = text; program = Some name; second = None }) fault
plant_not_read text name (Text fault) refused = refused
plant_not_read text name (Word fault) refused = absurd refused
plant_not_read text name Write refused = refused
plant_not_read text name Memory refused = refused

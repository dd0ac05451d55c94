-- What a ladder is read from: the text of a drawing, and perhaps of a second one, whose rungs stand behind; or, with the name
-- of a program type, that of a plant.
use Rattle.std.specs.Prelude.{◌≡◌, ℕ, ◌⊎◌, List, [], Option, Some, None}
use Rattle.std.specs.Option.{option_map}
use Rattle.network.specs.Links.{Diagram}
use Rattle.declared_names.specs.declared.declarations.Declaration.{Declaration}
use Rattle.plant_grammar.specs.Retained.{retained_places}
use Rattle.plant.specs.PlantText.{IsNoPlant}
use Rattle.plant.specs.ProgramText.{IsProgramOfText}
use Rattle.plant.specs.ProgramTypes.{TypeValue}
use Rattle.text_commands.specs.Comments.{without_comments}
use Rattle.text_commands.specs.CheckText.{RefusesPlantText}
use Rattle.text_commands.specs.EvalText.{IsLadderOfDrawing, RefusesDrawing}
use Rattle.text_commands.specs.SecondDrawing.{IsLadderOfBoth, RefusesBoth, one_below_other}
use Rattle.text_commands.specs.Series.{IsFirstRefusedSetting, SpellNoSettings}
use Rattle.text_commands.specs.declared.ladder_source.LadderSource.{LadderSource}
use Rattle.text_commands.specs.declared.text_command_fault.TextCommandFault.{TextCommandFault}
use Rattle.text_commands.specs.declared.text_command_fault.TextCommandFault.TheVariants.{Word}
use Rattle.text_commands.specs.declared.text_fault.TextFault.{TextFault}
use Rattle.text_commands.specs.declared.word_fault.WordFault.{WordFault}
use Rattle.text_commands.specs.declared.word_fault.WordFaultKind.TheVariants.{NoProgram}

-- the text of a drawing, and perhaps that of a second one; or that of a plant, and the name of a program type
pub record SourceValue : Type 0 where
  pub text : List ℕ
  pub program : Option (List ℕ)
  pub second : Option (List ℕ)

-- a source as it is given
abbrev pub source_of : LadderSource → SourceValue
source_of s = record {
  text = s.text.now;
  program = option_map (λ name. name.now) s.program;
  second = option_map (λ other. other.now) s.second;
}

-- the program type of this name in the text of a plant has these variables, as they are declared, and these networks
pub record IsLadderOfProgram (text name : List ℕ) (ds : List Declaration) (networks : List Diagram) : Type 0 where
  pub type : TypeValue
  pub found : IsProgramOfText text name (Some type)
  pub declared : ds ≡ type.ladder.declarations
  pub networks_are : networks ≡ type.ladder.networks

-- the lines of its body are this drawing
pub record IsBodyOfProgram (text name drawing : List ℕ) : Type 0 where
  pub type : TypeValue
  pub found : IsProgramOfText text name (Some type)
  pub drawing_is : drawing ≡ type.program.body

-- the variables at these places are retained
pub record AreRetainedOfProgram (text name : List ℕ) (retained : List ℕ) : Type 0 where
  pub type : TypeValue
  pub found : IsProgramOfText text name (Some type)
  pub retained_are : retained ≡ retained_places type.program

-- It holds of the text of a plant: as it stands; or, where that is no plant, with its comments emptied.
abbrev pub HoldsOfPlant : (List ℕ → Type 0) → List ℕ → Type 0
HoldsOfPlant Holds text = Holds text ⊎ (IsNoPlant text × Holds (without_comments text))

-- the ladder of a drawing, or of it and a second one, or of the program type of a name
abbrev pub IsLadderBy : Option (List ℕ) → Option (List ℕ) → List ℕ → List Declaration → List Diagram → Type 0
IsLadderBy None None text ds networks = IsLadderOfDrawing text ds networks
IsLadderBy None (Some other) text ds networks = IsLadderOfBoth text other ds networks
IsLadderBy (Some name) second text ds networks = HoldsOfPlant (λ t. IsLadderOfProgram t name ds networks) text

abbrev pub IsLadderFrom : SourceValue → List Declaration → List Diagram → Type 0
IsLadderFrom s ds networks = IsLadderBy s.program s.second s.text ds networks

-- the drawing itself, or it and the second one below, or the body of the program type of a name
abbrev pub IsDrawingBy : Option (List ℕ) → Option (List ℕ) → List ℕ → List ℕ → Type 0
IsDrawingBy None None text drawing = drawing ≡ text
IsDrawingBy None (Some other) text drawing = drawing ≡ one_below_other text other
IsDrawingBy (Some name) second text drawing = HoldsOfPlant (λ t. IsBodyOfProgram t name drawing) text

abbrev pub IsDrawingFrom : SourceValue → List ℕ → Type 0
IsDrawingFrom s drawing = IsDrawingBy s.program s.second s.text drawing

-- the places of the retained variables: a drawing has none, a program type those of VAR RETAIN
abbrev pub AreRetainedBy : Option (List ℕ) → List ℕ → List ℕ → Type 0
AreRetainedBy None text retained = retained ≡ []
AreRetainedBy (Some name) text retained = HoldsOfPlant (λ t. AreRetainedOfProgram t name retained) text

abbrev pub AreRetainedFrom : SourceValue → List ℕ → Type 0
AreRetainedFrom s retained = AreRetainedBy s.program s.text retained

-- what holds after a refusal by the text: a drawing is refused, or there is no plant
abbrev pub RefusesBy : Option (List ℕ) → Option (List ℕ) → List ℕ → TextFault → Type 0
RefusesBy None None text fault = RefusesDrawing text fault
RefusesBy None (Some other) text fault = RefusesBoth text other fault
RefusesBy (Some name) second text fault = RefusesPlantText text fault

abbrev pub RefusesSource : SourceValue → TextFault → Type 0
RefusesSource s fault = RefusesBy s.program s.second s.text fault

-- the plant has no program type of the name
abbrev pub LacksBy : Option (List ℕ) → List ℕ → Type 0
LacksBy None text = ⊥
LacksBy (Some name) text = HoldsOfPlant (λ t. IsProgramOfText t name None) text

abbrev pub LacksProgram : SourceValue → Type 0
LacksProgram s = LacksBy s.program s.text

-- the fault for that: a word is refused, none of those that are counted
abbrev pub unknown_program : WordFault
unknown_program = record { number = 0; kind = NoProgram }

abbrev pub no_program : TextCommandFault
no_program = Word unknown_program

-- so the name is refused
abbrev pub RefusesName : SourceValue → WordFault → Type 0
RefusesName s fault = LacksProgram s × (fault ≡ unknown_program)

-- the words set nothing that the source's ladder has, and this is the first fault
pub record RefusesWords (source : SourceValue) (words : List (List ℕ)) (fault : WordFault) : Type 0 where
  pub declarations : List Declaration
  pub networks : List Diagram
  pub ladder : IsLadderFrom source declarations networks
  pub refused : SpellNoSettings declarations words
  pub first : IsFirstRefusedSetting declarations words fault

-- What is known of a plant's text once its bodies are drawn.
use Rattle.std.specs.Prelude.{◌≡◌, ℕ, List, map, All}
use Rattle.words.specs.Lines.{without_last}
use Rattle.plant_text.specs.Spelling.{Spells}
use Rattle.plant_grammar.specs.declared.grammar.tree.Resource.{Resource}
use Rattle.plant_grammar.specs.Grammar.{Tree, words_of}
use Rattle.plant.specs.Faultless.{IsTreeFaultless}
use Rattle.plant.specs.Ladders.{IsLadderOf}
use Rattle.plant.specs.PlantValue.{PlantValue}
use Rattle.plant.specs.ProgramTypes.{TypeValue}
use Rattle.plant.specs.StandsFor.{IsPlantOf}

-- the program types with their ladders, and the resources as they are written
pub record ReadingValue : Type 0 where
  pub types : List TypeValue
  pub resources : List Resource

-- what is written, under the configuration's name
abbrev pub tree_of : List ℕ → ReadingValue → Tree
tree_of name r = record { programs = map (λ (t : TypeValue). t.program) r.types; name = name; resources = r.resources }

-- the text spells a tree without fault, whose types have these ladders, and the plant stands for it
pub record IsReadIn (text : List ℕ) (types : List TypeValue) (plant : PlantValue) : Type 0 where
  pub tree : Tree
  pub spelled : Spells (without_last 13 text) (words_of tree)
  pub faultless : IsTreeFaultless tree
  pub stands : IsPlantOf tree plant
  pub typed : map (λ (t : TypeValue). t.program) types ≡ tree.programs
  pub drawn : All (λ (t : TypeValue). IsLadderOf t.program t.ladder) types

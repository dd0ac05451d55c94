-- The names of a plant, which tell its resources and their tasks apart.
use Rattle.std.specs.Prelude.{ℕ, IsTrue, List, map, All}
use Rattle.words.specs.Chars.{is_plain_name}
use Rattle.plant_grammar.specs.Names.{AreNamesApart}
use Rattle.plant.specs.PlantValue.{TaskValue, ResourceValue, PlantValue}
use Rattle.plant.specs.PlantText.{IsPlantText}

-- the tasks of a resource have plain names, of which no two are one name
pub record AreTasksNamed (r : ResourceValue) : Type 0 where
  pub plain : All (λ (t : TaskValue). IsTrue (is_plain_name t.name)) r.tasks
  pub apart : AreNamesApart (map (λ (t : TaskValue). t.name) r.tasks)

-- the resources of a plant have plain names, of which no two are one name, and so have the tasks of each
pub record HasNamesApart (plant : PlantValue) : Type 0 where
  pub plain : All (λ (r : ResourceValue). IsTrue (is_plain_name r.name)) plant.resources
  pub apart : AreNamesApart (map (λ (r : ResourceValue). r.name) plant.resources)
  pub tasks : All AreTasksNamed plant.resources

-- so it is in a plant that a text spells
abbrev pub NamesAreApart : Type 0
NamesAreApart = (text : List ℕ) (plant : PlantValue) → IsPlantText text plant → HasNamesApart plant

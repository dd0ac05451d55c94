-- How many tasks, program instances and bound inputs a plant has.
use Rattle.std.specs.Prelude.{ℕ, ◌<◌, ◌^◌, List, length, sum_by}
use Rattle.task_codes.specs.CodeValue.{CodeValue}
use Rattle.plant.specs.PlantValue.{ResourceValue, PlantValue}
use Rattle.plant.specs.PlantText.{IsPlantText}

-- how many tasks a plant has
abbrev pub task_count : PlantValue → ℕ
task_count plant = sum_by (λ (r : ResourceValue). length r.tasks) plant.resources

-- how many program instances the tasks run
abbrev pub instances_of : List CodeValue → ℕ
instances_of codes = sum_by (λ (c : CodeValue). length c.programs) codes

abbrev pub program_count : PlantValue → ℕ
program_count plant = sum_by (λ (r : ResourceValue). instances_of r.codes) plant.resources

-- how many inputs of the instances are bound
abbrev pub connections_of : List CodeValue → ℕ
connections_of codes = sum_by (λ (c : CodeValue). sum_by length c.bindings) codes

abbrev pub connection_count : PlantValue → ℕ
connection_count plant = sum_by (λ (r : ResourceValue). connections_of r.codes) plant.resources

-- each count is a number of 64 bits
pub record AreCounts (plant : PlantValue) : Type 0 where
  pub tasks : task_count plant < 2 ^ 64
  pub programs : program_count plant < 2 ^ 64
  pub connections : connection_count plant < 2 ^ 64

-- a plant that a text spells has no more of them
abbrev pub CountsAreSmall : Type 0
CountsAreSmall = (text : List ℕ) (plant : PlantValue) → IsPlantText text plant → AreCounts plant

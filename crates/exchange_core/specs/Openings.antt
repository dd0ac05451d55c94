-- What the tasks of a resource begin with, and what they expect of others.
use Rattle.std.specs.Prelude.{◌≡◌, ℕ, ◌<◌, ◌≤◌, List, Some, length, map, slice_get}
use Rattle.std_blocks.specs.declared.value.Value.{Value}
use Rattle.declared_names.specs.declared.declarations.Kind.{Kind}
use Rattle.task_codes.specs.declared.task_ref.TaskRef.{TaskRef}
use Rattle.plant.specs.PlantValue.{PlantValue, code_at, codes_at}
use Rattle.task_codes.specs.CodeValue.{CodeValue, expected_at}
use Rattle.evaluation.specs.Retained.{Suits, initial_retained}
use Rattle.exchange_core.specs.declared.core_fault.CoreFault.{CoreFault}
use Rattle.exchange_core.specs.declared.core_fault.CoreFault.TheVariants as fault

-- retained values for each task of a resource, of the kinds of its retained variables
pub record AreOpeningOf (plant : PlantValue) (resource : ℕ) (opening : List (List Value)) : Type 0 where
  pub many : length opening ≡ length (codes_at plant resource)
  pub each : (task : ℕ) (code : CodeValue) (values : List Value)
      → code_at plant (record { resource = resource; task = task }) ≡ Some code
      → slice_get opening task ≡ Some values → Suits code values

-- what the tasks of a resource begin with where nothing was kept
abbrev pub initial_opening : PlantValue → ℕ → List (List Value)
initial_opening plant resource = map initial_retained (codes_at plant resource)

-- why there is no core; memory is wanting only where there is such a resource
abbrev pub IsCoreFault : PlantValue → ℕ → CoreFault → Type 0
IsCoreFault plant resource fault.NoSuchResource = length plant.resources ≤ resource
IsCoreFault plant resource fault.Memory = resource < length plant.resources

-- some task of a resource takes from p, and expects an image of these kinds of it
pub record Expects (plant : PlantValue) (resource : ℕ) (p : TaskRef) (kinds : List Kind) : Type 0 where
  pub task : ℕ
  pub code : CodeValue
  pub place : ℕ
  pub found : code_at plant (record { resource = resource; task = task }) ≡ Some code
  pub producer_is : slice_get code.producers place ≡ Some p
  pub kinds_are : expected_at code place ≡ kinds

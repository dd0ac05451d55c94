-- A core that holds nothing has its places, and knows of no task. The crates above cite it.
use Rattle.std.specs.Prelude.{◌≡◌, ℕ, Option, None, length}
use Rattle.lists.proofs.Tables.{cell_filled, row_lengths_filled}
use Rattle.task_codes.specs.declared.task_ref.TaskRef.{TaskRef}
use Rattle.plant.specs.PlantValue.{ResourceValue, PlantValue}
use Rattle.evaluation.specs.Meaning.{Evaluated}
use Rattle.exchange_core.specs.Held.{known, empty_for, IsShaped}

abbrev codes_long : ResourceValue → ℕ
codes_long r = length r.codes

abbrev none_known : Option Evaluated
none_known = None

pub fresh_shape : (plant : PlantValue) → IsShaped plant (empty_for plant)
fresh_shape plant = row_lengths_filled codes_long none_known plant.resources

pub fresh_known : (plant : PlantValue) (p : TaskRef) → known (empty_for plant) p ≡ None
fresh_known plant p = cell_filled codes_long none_known plant.resources p.resource p.task

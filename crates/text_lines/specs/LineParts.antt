-- What lines are made of.
use Rattle.std.specs.Prelude.{ℕ, ◌++◌, if◌then◌else◌, List, codes, slice_get}
use Rattle.std.specs.Option.{option_map}
use Rattle.std.specs.Fmt.{decimal, signed_decimal}
use Rattle.std_blocks.specs.declared.value.Value.{Value}
use Rattle.std_blocks.specs.declared.value.Value.TheVariants.{Bool as BoolValue, Int as IntValue, Time as TimeValue}
use Rattle.task_codes.specs.declared.task_ref.TaskRef.{TaskRef}
use Rattle.lists.specs.Items.{items_or_none}
use Rattle.plant.specs.PlantValue.{TaskValue, ResourceValue, PlantValue}
use Rattle.plant.specs.Plan.{task_at}

-- a BOOL is 0 or 1, an INT a decimal number, a TIME its milliseconds
abbrev pub value_text : Value → List ℕ
value_text (BoolValue on) = if on then codes "1" else codes "0"
value_text (IntValue n) = signed_decimal n
value_text (TimeValue t) = codes "T#" ++ decimal t ++ codes "ms"

-- a resource's name as it was declared
abbrev pub resource_text : PlantValue → ℕ → List ℕ
resource_text plant n = items_or_none (option_map (λ (r : ResourceValue). r.name) (slice_get plant.resources n))

-- a task's name as it was declared
abbrev pub task_name : PlantValue → TaskRef → List ℕ
task_name plant t = items_or_none (option_map (λ (found : TaskValue). found.name) (task_at plant t))

-- R.T: the names of a task's resource and its own
abbrev pub task_text : PlantValue → TaskRef → List ℕ
task_text plant t = resource_text plant t.resource ++ codes "." ++ task_name plant t

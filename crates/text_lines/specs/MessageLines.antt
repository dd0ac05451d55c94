-- The line of a message, and which messages are a plant's.
use Rattle.std.specs.Prelude.{◌≡◌, ◌≢◌, ℕ, ◌<◌, ◌^◌, ◌++◌, List, [], Option, Some, None, codes, length, map, slice_get}
use Rattle.std.specs.List.{AllByRecursion, flat_map, zip}
use Rattle.std.specs.Fmt.{decimal}
use Rattle.std_blocks.specs.declared.value.Value.{Value}
use Rattle.declared_names.specs.Kinds.{kind_of}
use Rattle.task_codes.specs.CodeValue.{CodeValue, image_kinds}
use Rattle.plant.specs.PlantValue.{PlantValue, ResourceValue, code_at}
use Rattle.text_lines.specs.LineParts.{task_text}
use Rattle.text_lines.specs.Lists.{gives_text}
use Rattle.text_lines.specs.ReadParts.{IsInRange}
use Rattle.evaluation.specs.declared.name.Name.{Name}
use Rattle.evaluation.specs.Messages.{MessageValue}

-- `R.T i.n`: a name
abbrev pub name_text : PlantValue → Name → List ℕ
name_text plant name =
    task_text plant name.task ++ codes " " ++ decimal name.incarnation ++ codes "." ++ decimal name.number

-- ` R=i`, behind a blank: a resource, and of which incarnation of it was heard
abbrev pub heard_text : ResourceValue × ℕ → List ℕ
heard_text e = codes " " ++ e.0.name ++ codes "=" ++ decimal e.1

-- what a task of this code gave
abbrev pub image_text : Option CodeValue → List Value → List ℕ
image_text None image = []
image_text (Some code) image = gives_text code image

-- `MESSAGE R.T i.n HEARD R=i .. GIVES list`: a message
abbrev pub message_line : PlantValue → MessageValue → List ℕ
message_line plant m =
    codes "MESSAGE " ++ name_text plant m.name ++ codes " HEARD" ++ flat_map heard_text (zip plant.resources m.heard)
    ++ codes " GIVES " ++ image_text (code_at plant m.name.task) m.image

-- A message has the form of a plant's: its task is one of the plant, it has heard of each resource, and its image has
-- the task's kinds.
pub record HasForm (plant : PlantValue) (m : MessageValue) : Type 0 where
  pub code : CodeValue
  pub coded : code_at plant m.name.task ≡ Some code
  pub heard_each : length m.heard ≡ length plant.resources
  pub kinds_are : map kind_of m.image ≡ image_kinds code

-- a number of 32 bits
abbrev pub IsSmall : ℕ → Type 0
IsSmall n = n < 2 ^ 32

-- a message of a plant: it has that form, its numbers and values are in their ranges, and of its own resource it has
-- heard its own incarnation
pub record IsMessageOf (plant : PlantValue) (m : MessageValue) : Type 0 where
  pub form : HasForm plant m
  pub incarnation_small : IsSmall m.name.incarnation
  pub number_small : IsSmall m.name.number
  pub heard_small : AllByRecursion IsSmall m.heard
  pub values_in_range : AllByRecursion IsInRange m.image
  pub own_heard : slice_get m.heard m.name.task.resource ≡ Some m.name.incarnation

-- a line is that of no message of a plant
abbrev pub IsNoMessage : PlantValue → List ℕ → Type 0
IsNoMessage plant line = (m : MessageValue) → IsMessageOf plant m → line ≢ message_line plant m

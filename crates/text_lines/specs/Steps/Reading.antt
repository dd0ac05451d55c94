-- A line that is read part by part.
use Rattle.std.specs.Prelude.{◌≡◌, ◌≢◌, ◌==◌, ℕ, ◌++◌, List, [], ◌∷◌, Option, Some, codes, slice_get}
use Rattle.std.specs.List.{AllByRecursion, AllZip, flat_map, zip, position}
use Rattle.std.specs.Fmt.{decimal}
use Rattle.std_blocks.specs.declared.value.Value.{Value}
use Rattle.declared_names.specs.declared.declarations.Kind.{Kind}
use Rattle.declared_names.specs.Kinds.{kind_of}
use Rattle.task_codes.specs.declared.task_ref.TaskRef.{TaskRef}
use Rattle.task_codes.specs.declared.task_output.TaskOutput.{TaskOutput}
use Rattle.task_codes.specs.CodeValue.{CodeValue}
use Rattle.plant.specs.PlantValue.{PlantValue, ResourceValue}
use Rattle.text_lines.specs.LineParts.{task_text}
use Rattle.text_lines.specs.Lists.{instance_text, variable_text, give_text, gives_text}
use Rattle.text_lines.specs.ReadParts.{IsInRange}
use Rattle.evaluation.specs.Messages.{MessageValue}
use Rattle.text_lines.specs.MessageLines.{heard_text, message_line, HasForm, IsSmall, IsMessageOf}

-- where the first such byte stands
abbrev pub stop_in : List ℕ → ℕ → Option ℕ
stop_in text stop = position (λ c. c == stop) text

-- no such byte is in a text
abbrev pub HasNone : ℕ → List ℕ → Type 0
HasNone stop text = AllByRecursion (λ c. c ≢ stop) text

-- a text is at its end, or such a byte is its first
abbrev pub StopsAt : ℕ → List ℕ → Type 0
StopsAt stop [] = Unit {0}
StopsAt stop (c ∷ more) = c ≡ stop

-- Where a text begins with what is written of a thing of this sort, and stops behind it, that thing was read, and the
-- rest is left.
abbrev pub IsRead : {B : Type 0} → (B → List ℕ) → (B → Type 0) → ℕ → List ℕ → Option (B × List ℕ) → Type 0
IsRead {B} written IsSo stop text found =
    (b : B) (more : List ℕ) → IsSo b → StopsAt stop more → text ≡ written b ++ more → found ≡ Some (b, more)

-- a value of a kind, in its range
abbrev pub IsOfKind : Kind → Value → Type 0
IsOfKind kind value = (kind_of value ≡ kind) × IsInRange value

-- what stands before a task's name, and what behind it
abbrev pub before_pair : PlantValue → TaskRef → List ℕ
before_pair plant task = codes "MESSAGE " ++ task_text plant task ++ codes " "

-- .n: a number behind a dot
abbrev pub dotted : ℕ → List ℕ
dotted n = codes "." ++ decimal n

-- i.n: an incarnation and a number
abbrev pub pair_text : ℕ × ℕ → List ℕ
pair_text pair = decimal pair.0 ++ dotted pair.1

abbrev pub IsPair : ℕ × ℕ → Type 0
IsPair pair = IsSmall pair.0 × IsSmall pair.1

-- a number was heard of a resource
abbrev pub IsHeardOf : ResourceValue → ℕ → Type 0
IsHeardOf r n = IsSmall n

-- R=i: a resource, and of which incarnation of it was heard
abbrev pub heard_item : ResourceValue × ℕ → List ℕ
heard_item e = e.0.name ++ codes "=" ++ decimal e.1

abbrev pub all_heard_text : PlantValue → List ℕ → List ℕ
all_heard_text plant heard = flat_map heard_text (zip plant.resources heard)

-- PROGRAM.OUTPUT
abbrev pub output_name : CodeValue → TaskOutput → List ℕ
output_name code o = instance_text code o ++ codes "." ++ variable_text o (slice_get code.programs o.program)

-- an output and its value, behind a blank
abbrev pub blank_give : CodeValue → TaskOutput × Value → List ℕ
blank_give code e = codes " " ++ give_text code e

abbrev pub IsGivenOf : TaskOutput → Value → Type 0
IsGivenOf o value = IsOfKind o.kind value

abbrev pub blank_gives : CodeValue → List Value → List ℕ
blank_gives code values = flat_map (blank_give code) (zip code.outputs values)

-- Where a text is what a task gave, behind ` GIVES `, those values were read.
abbrev pub AreGivesRead : CodeValue → List ℕ → Option (List Value) → Type 0
AreGivesRead code text found =
    (values : List Value) → AllZip IsGivenOf code.outputs values → text ≡ codes " GIVES " ++ gives_text code values
    → found ≡ Some values

-- the maker of a message has heard of its own incarnation
abbrev pub HasHeardItself : MessageValue → Type 0
HasHeardItself m = slice_get m.heard m.name.task.resource ≡ Some m.name.incarnation

-- a message of a task, but for what its maker has heard of itself
pub record IsRoughly (plant : PlantValue) (task : TaskRef) (m : MessageValue) : Type 0 where
  pub task_is : m.name.task ≡ task
  pub form : HasForm plant m
  pub incarnation_small : IsSmall m.name.incarnation
  pub number_small : IsSmall m.name.number
  pub heard_small : AllByRecursion IsSmall m.heard
  pub values_in_range : AllByRecursion IsInRange m.image

-- If a line is that of a message of a task, that message was read.
abbrev pub IsFreelyRead : PlantValue → TaskRef → List ℕ → Option MessageValue → Type 0
IsFreelyRead plant task line found =
    (m : MessageValue) → IsMessageOf plant m → m.name.task ≡ task → line ≡ message_line plant m → found ≡ Some m

-- a line is that of no message of a task, and of no task of a resource
abbrev pub IsNoneOf : PlantValue → TaskRef → List ℕ → Type 0
IsNoneOf plant task line =
    (m : MessageValue) → IsMessageOf plant m → m.name.task ≡ task → line ≢ message_line plant m

abbrev pub IsNoneIn : PlantValue → ℕ → List ℕ → Type 0
IsNoneIn plant resource line =
    (m : MessageValue) → IsMessageOf plant m → m.name.task.resource ≡ resource → line ≢ message_line plant m

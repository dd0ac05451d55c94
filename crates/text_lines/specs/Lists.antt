-- Lists in lines: what a task took, and what it gave.
use Rattle.std.specs.Prelude.{ℕ, ◌++◌, List, [], ◌∷◌, map, zip, codes, slice_get, Option, Some, None}
use Rattle.std.specs.Option.{option_map}
use Rattle.std.specs.List.{join_with_byte}
use Rattle.std.specs.Fmt.{decimal}
use Rattle.std_blocks.specs.declared.value.Value.{Value}
use Rattle.declared_names.specs.declared.declarations.Declaration.{Declaration}
use Rattle.task_codes.specs.declared.task_output.TaskOutput.{TaskOutput}
use Rattle.lists.specs.Items.{items_or_none}
use Rattle.plant.specs.PlantValue.{PlantValue}
use Rattle.task_codes.specs.CodeValue.{ProgramValue, CodeValue}
use Rattle.evaluation.specs.declared.take.Take.{Take}
use Rattle.text_lines.specs.LineParts.{value_text, task_text}

-- i.n: an incarnation and a number; `-` for none
abbrev pub pair_text : Option (ℕ × ℕ) → List ℕ
pair_text None = codes "-"
pair_text (Some pair) = decimal pair.0 ++ codes "." ++ decimal pair.1

-- R.T=i.n: what was taken from a producer
abbrev pub take_text : PlantValue → Take → List ℕ
take_text plant t = task_text plant t.producer ++ codes "=" ++ pair_text t.from

-- the instance's name of an output, and the variable's, as they were declared
abbrev pub instance_text : CodeValue → TaskOutput → List ℕ
instance_text c o = items_or_none (option_map (λ (p : ProgramValue). p.name) (slice_get c.programs o.program))

abbrev pub variable_text : TaskOutput → Option ProgramValue → List ℕ
variable_text o None = []
variable_text o (Some p) =
    items_or_none (option_map (λ (d : Declaration). d.name) (slice_get p.ladder.declarations o.place))

-- PROGRAM.OUTPUT=value
abbrev pub give_text : CodeValue → TaskOutput × Value → List ℕ
give_text c given =
    instance_text c given.0 ++ codes "." ++ variable_text given.0 (slice_get c.programs given.0.program) ++ codes "="
    ++ value_text given.1

-- items parted by one blank; `-` for none
abbrev pub list_text : List (List ℕ) → List ℕ
list_text [] = codes "-"
list_text (item ∷ more) = join_with_byte 32 (item ∷ more)

-- what was taken, and what was given
abbrev pub takes_text : PlantValue → List Take → List ℕ
takes_text plant takes = list_text (map (take_text plant) takes)

abbrev pub gives_text : CodeValue → List Value → List ℕ
gives_text c values = list_text (map (give_text c) (zip c.outputs values))

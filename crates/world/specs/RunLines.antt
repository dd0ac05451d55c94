-- The lines that tell what events did.
use Rattle.std.specs.Prelude.{ℕ, ◌++◌, List, codes}
use Rattle.std.specs.Fmt.{decimal}
use Rattle.plant.specs.PlantValue.{PlantValue}
use Rattle.text_lines.specs.LineParts.{task_text}
use Rattle.text_lines.specs.Lists.{takes_text, gives_text}
use Rattle.evaluation.specs.declared.name.Name.{Name}
use Rattle.evaluation.specs.Meaning.{Evaluated}

-- `EVAL m R.T i.n`: message m is the evaluation of this name
abbrev pub name_text : PlantValue → ℕ → Name → List ℕ
name_text plant m name =
    codes "EVAL " ++ decimal m ++ codes " " ++ task_text plant name.task ++ codes " "
    ++ decimal name.incarnation ++ codes "." ++ decimal name.number

-- `EVAL m R.T i.n TAKES list GIVES list`: message m is this evaluation
abbrev pub evaluation_line : PlantValue → ℕ → Evaluated → List ℕ
evaluation_line plant m x =
    name_text plant m x.name ++ codes " TAKES " ++ takes_text plant x.takes
    ++ codes " GIVES " ++ gives_text x.code x.outputs ++ codes "\n"

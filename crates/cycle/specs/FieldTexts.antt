-- What a node that runs by itself writes.
use Rattle.std.specs.Prelude.{ℕ, ◌++◌, ◌==◌, if◌then◌else◌, List, [], codes}
use Rattle.std.specs.List.{flat_map}
use Rattle.std.specs.Fmt.{decimal}
use Rattle.std_blocks.specs.declared.value.Value.TheVariants.{Bool as BoolValue, Int as IntValue}
use Rattle.task_codes.specs.declared.task_ref.TaskRef.{TaskRef}
use Rattle.plant.specs.PlantValue.{PlantValue}
use Rattle.evaluation.specs.declared.field_input.FieldInput.{FieldInput}
use Rattle.evaluation.specs.declared.field_input.FieldInput.TheVariants.{Bit, Word}
use Rattle.text_lines.specs.LineParts.{task_text, value_text}
use Rattle.cycle.specs.declared.field_refusal.FieldRefusal.{FieldRefusal}
use Rattle.cycle.specs.declared.field_refusal.FieldRefusal.TheVariants.{Syntax, Twice, TooLong, NotFromThere, Cycling}

-- ` %IX0=1` or ` %IW2=-7`, behind a blank
abbrev pub input_text : FieldInput → List ℕ
input_text (Bit n v) = codes " %IX" ++ decimal n ++ codes "=" ++ value_text (BoolValue v)
input_text (Word n v) = codes " %IW" ++ decimal n ++ codes "=" ++ value_text (IntValue v)

-- `EVAL R.T dt ADDRESS=VALUE ..`: the line that asks for an evaluation of the cycle, with what the field is
abbrev pub cycle_line : PlantValue → TaskRef → ℕ → List FieldInput → List ℕ
cycle_line plant t dt listed =
    codes "EVAL " ++ task_text plant t ++ codes " " ++ decimal dt ++ flat_map input_text listed

-- `OVERRUN R.T n`: so many due moments of a task are skipped; nothing where none is
abbrev pub overrun_text : PlantValue → TaskRef → ℕ → List ℕ
overrun_text plant t skipped =
    if skipped == 0 then [] else codes "OVERRUN " ++ task_text plant t ++ codes " " ++ decimal skipped ++ codes "\n"

-- the field's line is taken
abbrev pub taken_line : List ℕ
taken_line = codes "INPUT taken\n"

-- the field ended, or can't be read
abbrev pub ended_line : List ℕ
ended_line = codes "FIELD ended\n"

-- why a line isn't done
abbrev pub refusal_text : FieldRefusal → List ℕ
refusal_text Syntax = codes "Syntax"
refusal_text Twice = codes "Twice"
refusal_text TooLong = codes "TooLong"
refusal_text NotFromThere = codes "NotFromThere"
refusal_text Cycling = codes "Cycling"

-- `REFUSED Kind`
abbrev pub refused_line : FieldRefusal → List ℕ
refused_line refusal = codes "REFUSED " ++ refusal_text refusal ++ codes "\n"

-- What `plc eval --chart` writes: a line for each variable.
use Rattle.std.specs.Prelude.{ℕ, zero, suc, ◌-◌, ◌==◌, ◌++◌, if◌then◌else◌, List, [], ◌∷◌, Bool, true, false, Option, Some, None, length, codes, fold, max, replicate, slice_get}
use Rattle.std.specs.List.{flat_map}
use Rattle.std.specs.Option.{option_to_list, option_map_or}
use Rattle.std.specs.Ordering.{int_eq}
use Rattle.std_blocks.specs.declared.value.Value.{Value}
use Rattle.std_blocks.specs.declared.value.Value.TheVariants.{Bool as BoolValue, Int as IntValue, Time as TimeValue}
use Rattle.declared_names.specs.declared.declarations.Declaration.{Declaration}
use Rattle.declared_names.specs.declared.declarations.Declared.{Declared}
use Rattle.declared_names.specs.declared.declarations.Declared.TheVariants.{Input, Output, Local, Instance}
use Rattle.scan_steps.specs.declared.slot.Slot.{Slot}
use Rattle.scan_steps.specs.Slots.{variable_at}
use Rattle.text_lines.specs.LineParts.{value_text}

-- a variable, and no instance of a block
abbrev pub is_variable : Declared → Bool
is_variable (Input k) = true
is_variable (Output k) = true
is_variable (Local k) = true
is_variable (Instance block) = false

-- how long a variable's name is; of an instance nothing is written
abbrev pub width_of : Declaration → ℕ
width_of d = if is_variable d.declared then length d.name else 0

-- the greatest length of a variable's name
abbrev pub name_width : List Declaration → ℕ
name_width ds = fold (λ most d. max most (width_of d)) 0 ds

-- a name, with blanks up to the width and one more
abbrev pub padded : ℕ → List ℕ → List ℕ
padded width name = name ++ replicate (width - length name) 32 ++ codes " "

-- two numbers are the same, or two times
abbrev pub is_same_value : Value → Value → Bool
is_same_value (BoolValue on) value = false
is_same_value (IntValue n) (BoolValue on) = false
is_same_value (IntValue n) (IntValue m) = int_eq n m
is_same_value (IntValue n) (TimeValue t) = false
is_same_value (TimeValue t) (BoolValue on) = false
is_same_value (TimeValue t) (IntValue n) = false
is_same_value (TimeValue t) (TimeValue s) = t == s

-- a number or time is written after the first scan, and behind a blank where it is another one than after the scan before
abbrev pub change_text : Option Value → Value → List ℕ
change_text None value = value_text value
change_text (Some before) value = if is_same_value before value then [] else codes " " ++ value_text value

-- what a line shows of one scan, behind the value after the scan before: of a BOOL `#` where it is on and `_` where it is off
abbrev pub sign_of : Option Value → Value → List ℕ
sign_of before (BoolValue on) = if on then codes "#" else codes "_"
sign_of before (IntValue n) = change_text before (IntValue n)
sign_of before (TimeValue t) = change_text before (TimeValue t)

-- what a line shows of these values, one after each scan, behind one before them
abbrev pub signs_of : Option Value → List Value → List ℕ
signs_of before [] = []
signs_of before (value ∷ values) = sign_of before value ++ signs_of (Some value) values

-- the values of the variable at a place, after each scan
abbrev pub values_at : ℕ → List (List Slot) → List Value
values_at place states = flat_map (λ slots. option_to_list (variable_at slots place)) states

-- the line of a declared name: of a variable its name and its values; of an instance nothing
abbrev pub chart_line : ℕ → List (List Slot) → ℕ → Declaration → List ℕ
chart_line width states place d =
    if is_variable d.declared then padded width d.name ++ signs_of None (values_at place states) ++ codes "\n" else []

-- the lines of the first so many declared names
abbrev pub chart_lines : List Declaration → List (List Slot) → ℕ → List ℕ
chart_lines ds states zero = []
chart_lines ds states (suc place) =
    chart_lines ds states place ++ option_map_or (chart_line (name_width ds) states place) (slice_get ds place) []

-- a line for each variable in order of declaration
abbrev pub chart_of : List Declaration → List (List Slot) → List ℕ
chart_of ds states = chart_lines ds states (length ds)

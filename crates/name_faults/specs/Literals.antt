-- The values of numbers and durations.
use Rattle.std.specs.Prelude.{ℕ, List, if◌then◌else◌, Option, Some, None, pos}
use Rattle.std_blocks.specs.declared.value.Value.{Value}
use Rattle.std_blocks.specs.declared.value.Value.TheVariants.{Int as IntValue, Time as TimeValue}
use Rattle.words.specs.Chars.{is_number, is_duration}
use Rattle.words.specs.Numbers.{number_value, duration_value}

-- the value of a number or a duration; a name has none
unfoldable pub literal_value : List ℕ → Option Value
literal_value w =
    if is_number w then Some (IntValue (pos (number_value w)))
    else (if is_duration w then Some (TimeValue (duration_value w)) else None)

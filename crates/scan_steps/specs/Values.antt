use Rattle.std.specs.Prelude.{ℤ, pos, ℕ, Bool, false, Option, Some, None}
use Rattle.std_blocks.specs.declared.value.Value.{Value}
use Rattle.std_blocks.specs.declared.value.Value.TheVariants.{Bool as BoolValue, Int, Time}

-- whether a value is TRUE
abbrev pub is_true : Option Value → Bool
is_true None = false
is_true (Some (BoolValue b)) = b
is_true (Some (Int n)) = false
is_true (Some (Time t)) = false

-- the INT of a value, 0 where there is none
abbrev pub int_or_zero : Option Value → ℤ
int_or_zero None = pos 0
int_or_zero (Some (BoolValue b)) = pos 0
int_or_zero (Some (Int n)) = n
int_or_zero (Some (Time t)) = pos 0

-- the TIME of a value, 0 where there is none
abbrev pub time_or_zero : Option Value → ℕ
time_or_zero None = 0
time_or_zero (Some (BoolValue b)) = 0
time_or_zero (Some (Int n)) = 0
time_or_zero (Some (Time t)) = t

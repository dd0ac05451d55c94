-- What is read of lines.
use Rattle.std.specs.Prelude.{◌≡◌, ◌≢◌, ℕ, ◌<◌, ◌^◌, ◌++◌, FitsSigned, List, Option, Some, None}
use Rattle.std.specs.Int.{w16}
use Rattle.std_blocks.specs.declared.value.Value.{Value}
use Rattle.std_blocks.specs.declared.value.Value.TheVariants.{Bool as BoolValue, Int as IntValue, Time as TimeValue}

-- what stands behind the beginning of a text, if the text begins so
abbrev pub IsBehind : List ℕ → List ℕ → Option (List ℕ) → Type 0
IsBehind text beginning None = (rest : List ℕ) → text ≢ beginning ++ rest
IsBehind text beginning (Some rest) = text ≡ beginning ++ rest

-- an INT is of 16 bits with a sign, a TIME of 32 without
abbrev pub IsInRange : Value → Type 0
IsInRange (BoolValue on) = Unit {0}
IsInRange (IntValue n) = FitsSigned w16 n
IsInRange (TimeValue t) = t < 2 ^ 32

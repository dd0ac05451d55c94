-- Values of variables, one after the other.
use Rattle.std.specs.Prelude.{ℕ, ◌==◌, ◌&&◌, zero, suc, List, Bool, false, if◌then◌else◌, slice_index_or}
use Rattle.gates.specs.declared.gates.Gate.{Gate}
use Rattle.gates.specs.declared.gates.Gate.TheVariants.{Off, Input, And}
use Rattle.gates.specs.Signals.{signal_value}

-- what a gate says of its variable, where the inputs and the variables have these values
abbrev pub own_value : (ℕ → Bool) → (ℕ → Bool) → Gate → Bool
own_value inputs v Off = false
own_value inputs v (Input number) = inputs number
own_value inputs v (And left right) = signal_value v left && signal_value v right

-- the values of the first variables, the others FALSE
abbrev pub first_values : (ℕ → Bool) → List Gate → ℕ → ℕ → Bool
first_values inputs gates zero k = false
first_values inputs gates (suc n) k =
    if k == n then own_value inputs (first_values inputs gates n) (slice_index_or gates n Off) else first_values inputs gates n k

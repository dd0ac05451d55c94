-- What signals stand for.
use Rattle.std.specs.Prelude.{ℕ, List, Bool, false, not, if◌then◌else◌, slice_index_or}
use Rattle.gates.specs.declared.signal.Signal.{Signal}

-- a signal under these values of the variables
abbrev pub signal_value : (ℕ → Bool) → Signal → Bool
signal_value v s = if s.is_negated then not (v s.variable) else v s.variable

-- the bits of a list by their numbers, those beyond it FALSE
abbrev pub bit_of : List Bool → ℕ → Bool
bit_of bits k = slice_index_or bits k false

-- What words of signals stand for.
use Rattle.std.specs.Prelude.{ℕ, ◌+◌, ◌*◌, List, [], ◌∷◌, Bool, map, if◌then◌else◌}
use Rattle.gates.specs.declared.signal.Signal.{Signal}
use Rattle.gates.specs.Signals.{signal_value}

-- the number that bits make, the lowest first
abbrev pub number_of : List Bool → ℕ
number_of [] = 0
number_of (b ∷ bits) = (if b then 1 else 0) + 2 * number_of bits

-- a word under these values of the variables
abbrev pub word_value : (ℕ → Bool) → List Signal → ℕ
word_value v word = number_of (map (signal_value v) word)

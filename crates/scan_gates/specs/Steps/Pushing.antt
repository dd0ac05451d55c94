-- Signals that are pushed.
use Rattle.std.specs.Prelude.{◌≡◌, ℕ, ◌++◌, List, length}
use Rattle.gates.specs.declared.signal.Signal.{Signal}

-- so many more came behind the others
pub record HasMore (old new : List Signal) (count : ℕ) : Type 0 where
  pub more : List Signal
  pub is : new ≡ old ++ more
  pub many : length more ≡ count

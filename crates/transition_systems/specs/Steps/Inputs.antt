-- Signals of inputs.
use Rattle.std.specs.Prelude.{◌≡◌, ℕ, ◌+◌, List, false, Some, length, slice_get}
use Rattle.gates.specs.declared.signal.Signal.{Signal}
use Rattle.gates.specs.declared.gates.Gate.{Gate}
use Rattle.gates.specs.declared.gates.Gate.TheVariants.{Input}
use Rattle.gates.specs.Gates.{IsOrdered}
use Rattle.transition_systems.specs.declared.system.TransitionSystem.{TransitionSystem}

-- the signal is the input with this number
abbrev pub IsInput : List Gate → ℕ → Signal → Type 0
IsInput gates number s = (s.is_negated ≡ false) × (slice_get gates s.variable ≡ Some (Input number))

-- the signals are the inputs from this number on
abbrev pub AreInputs : List Gate → ℕ → List Signal → Type 0
AreInputs gates from signals = (k : ℕ) (s : Signal) → slice_get signals k ≡ Some s → IsInput gates (from + k) s

-- the gates read what is before them; the state bits, and behind them the inputs of a row, are the inputs of the gates
pub record IsLaidOut (t : TransitionSystem) : Type 0 where
  pub ordered : IsOrdered t.gates
  pub states : AreInputs t.gates 0 t.state.items
  pub inputs : AreInputs t.gates (length t.state.items) t.inputs.items

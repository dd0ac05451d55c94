use Rattle.std.proofs.Common.{◌≡◌, ℕ, ◌+◌, ◌<◌, Some}
use Rattle.std.specs.Prelude.{slice_get}
use Rattle.gates.specs.declared.signal.Signal.{Signal}
use Rattle.transition_systems.specs.Steps.Inputs.{IsInput}
use Rattle.transition_systems.proofs.shape.are_inputs.Given as goal

abbrev pub invariant-loop-place : goal.invariant-loop-place
invariant-loop-place l = (k : ℕ) (s : Signal) → k < l.place → slice_get l.signals k ≡ Some s → IsInput l.gates (l.from + k) s

use Rattle.std.proofs.Common.{◌≡◌, ℕ, ◌<◌, Some}
use Rattle.std.specs.Prelude.{slice_get}
use Rattle.gates.specs.declared.gates.Gate.{Gate}
use Rattle.gates.specs.Gates.{IsBefore}
use Rattle.gates.proofs.gates.Gates.is_ordered.Given as goal

abbrev pub invariant-loop-number : goal.invariant-loop-number
invariant-loop-number l = (k : ℕ) (g : Gate) → k < l.number → slice_get l.gates k ≡ Some g → IsBefore k g

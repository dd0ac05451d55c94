use Rattle.std.proofs.Common.{◌≡◌, leb}
use Rattle.gates.specs.Signals.{signal_value}
use Rattle.gates.specs.Gates.{IsBuilt}
use Rattle.gate_words.specs.Steps.Bits.{bit_at, low_value}
use Rattle.gate_words.proofs.comparing.at_most.Given as goal

abbrev pub invariant-loop-place : goal.invariant-loop-place
invariant-loop-place l =
    IsBuilt l.fn.gates l.gates
    (λ v. signal_value v l.is_at_most ≡ leb (low_value (bit_at v l.left) l.place) (low_value (bit_at v l.right) l.place))

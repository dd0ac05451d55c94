use Rattle.std.proofs.Common.{◌≡◌, ℕ, length}
use Rattle.gates.specs.Signals.{bit_of}
use Rattle.gates.specs.Steps.Values.{first_values}
use Rattle.gates.proofs.gates.Gates.values.Given as goal

abbrev pub invariant-loop-gate : goal.invariant-loop-gate
invariant-loop-gate l = record {
  made : length l.values.items ≡ l.gate-index;
  same : (k : ℕ) → bit_of l.values.items k ≡ first_values (bit_of l.inputs) l.gates l.gate-index k;
}

use Rattle.std.proofs.Common.{ℕ, Bool}
use Rattle.gates.specs.Gates.{Agrees}
use Rattle.scan_gates.specs.Steps.Pushing.{HasMore}
use Rattle.scan_gates.proofs.states.push_inputs.Given as goal

abbrev pub invariant-loop-input : goal.invariant-loop-input
invariant-loop-input l = record {
  built : (v : ℕ → Bool) → Agrees v l.gates → Agrees v l.fn.gates;
  more : HasMore l.initial.signals.items l.signals.items l._input;
}

use Rattle.std.proofs.Common.{◌≡◌, ℕ, ◌<◌, get_or}
use Rattle.power_flow.specs.declared.steps.circuit.Circuit.{Circuit}
use Rattle.power_flow.proofs.steps.circuits.have_same_elements.Given as goal

abbrev pub invariant-loop-i : goal.invariant-loop-i
invariant-loop-i l = (k : ℕ) (d : Circuit) → k < l.i → (get_or l.circuits k d).elements.items ≡ (get_or l.others k d).elements.items

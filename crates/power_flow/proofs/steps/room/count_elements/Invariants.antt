use Rattle.std.proofs.Common.{◌≡◌, take, length, sum_by}
use Rattle.power_flow.proofs.steps.room.count_elements.Given as goal

abbrev pub invariant-loop-circuit : goal.invariant-loop-circuit
invariant-loop-circuit l = l.count ≡ sum_by (λ c. length c.elements.items) (take l.circuit-index l.circuits)

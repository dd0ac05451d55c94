use Rattle.std.proofs.Common.{◌≤◌, All, take}
use Rattle.power_flow.proofs.steps.room.most_rows.Given as goal

abbrev pub invariant-loop-circuit : goal.invariant-loop-circuit
invariant-loop-circuit l = All (λ c. c.rows ≤ l.most) (take l.circuit-index l.circuits)

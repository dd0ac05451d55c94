use Rattle.std.proofs.Common.{◌≤◌, ℕ, All, take, length}
use Rattle.power_flow.proofs.steps.room.most_coils.Given as goal

abbrev pub invariant-loop-circuit : goal.invariant-loop-circuit
invariant-loop-circuit l = All (λ c. length c.coils.items ≤ l.most) (take l.circuit-index l.circuits) × ((n : ℕ) → All (λ c. length c.coils.items ≤ n) l.circuits → l.most ≤ n)

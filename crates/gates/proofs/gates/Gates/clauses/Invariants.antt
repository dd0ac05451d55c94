use Rattle.std.proofs.Common.{ℕ, Bool}
use Rattle.clauses.specs.Clauses.{AreTrue}
use Rattle.gates.specs.Gates.{Agrees}
use Rattle.gates.proofs.gates.Gates.clauses.Given as goal

abbrev pub invariant-loop-variable : goal.invariant-loop-variable
invariant-loop-variable l = (v : ℕ → Bool) → Agrees v l.gates → AreTrue v l.clauses.items

use Rattle.std.proofs.Common.{ℕ, Bool}
use Rattle.clauses.specs.Clauses.{AreTrue}
use Rattle.transition_systems.specs.Systems.{bits_at}
use Rattle.transition_systems.specs.Certificates.{HoldOf}
use Rattle.transition_systems.proofs.formula.put_over.Given as goal

abbrev pub invariant-loop-clause : goal.invariant-loop-clause
invariant-loop-clause l = (v : ℕ → Bool) → HoldOf l.clauses (bits_at v l.signals) → AreTrue v l.fn.formula.items → AreTrue v l.formula.items

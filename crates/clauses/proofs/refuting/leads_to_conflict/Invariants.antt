use Rattle.std.proofs.Common.{ℕ, Bool}
use Rattle.clauses.specs.Clauses.{AreTrue}
use Rattle.clauses.specs.Steps.Assignments.{AreAgreed}
use Rattle.clauses.specs.Steps.Following.{clauses_of}
use Rattle.clauses.proofs.refuting.leads_to_conflict.Given as goal

abbrev pub invariant-loop-hint : goal.invariant-loop-hint
invariant-loop-hint l =
    (v : ℕ → Bool) → AreTrue v (clauses_of l.formula l.steps) → AreAgreed v l.fn.known → AreAgreed v l.known

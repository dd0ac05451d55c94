use Rattle.std.proofs.Common.{◌≡◌, ℕ, Bool, false}
use Rattle.clauses.specs.Clauses.{clause_value}
use Rattle.clauses.specs.Steps.Assignments.{AreAgreed}
use Rattle.clauses.proofs.refuting.note_false.Given as goal

abbrev pub invariant-loop-literal : goal.invariant-loop-literal
invariant-loop-literal l = (v : ℕ → Bool) → AreAgreed v l.fn.known → clause_value v l.clause ≡ false → AreAgreed v l.known

-- What follows from clauses, in one step.
use Rattle.std.specs.Prelude.{◌≡◌, ℕ, ◌++◌, List, Bool, false, Option, map}
use Rattle.std.specs.Global.{Vec}
use Rattle.clauses.specs.declared.literal.Literal.{Literal}
use Rattle.clauses.specs.declared.step.Step.{Step}
use Rattle.clauses.specs.Clauses.{AreTrue, clause_value}
use Rattle.clauses.specs.Steps.Assignments.{AreAgreed}

-- the clauses of the formula, and behind them those of the steps
abbrev pub clauses_of : List (Vec Literal) → List Step → List (Vec Literal)
clauses_of formula steps = formula ++ map (λ (s : Step). s.clause) steps

-- values of the variables that agree with what was known, and make the clause FALSE, agree with what is known now
abbrev pub IsNarrowed : List Literal → List (Option Bool) → List (Option Bool) → Type 0
IsNarrowed clause old new = (v : ℕ → Bool) → AreAgreed v old → clause_value v clause ≡ false → AreAgreed v new

-- no values of the variables that agree with what is known make all clauses TRUE
abbrev pub AllButTrue : List (Vec Literal) → List (Option Bool) → Type 0
AllButTrue clauses known = (v : ℕ → Bool) → AreTrue v clauses → AreAgreed v known → ⊥

-- What clauses say of variables, and when no values make all of them TRUE.
use Rattle.std.specs.Prelude.{◌≡◌, ℕ, ◌||◌, List, [], ◌∷◌, Bool, true, false, not, All, if◌then◌else◌}
use Rattle.std.specs.Global.{Vec}
use Rattle.clauses.specs.declared.literal.Literal.{Literal}
use Rattle.clauses.specs.declared.step.Step.{Step}

-- a literal under these values of the variables
abbrev pub literal_value : (ℕ → Bool) → Literal → Bool
literal_value v l = if l.is_negated then not (v l.variable) else v l.variable

-- a clause is TRUE where one of its literals is
abbrev pub clause_value : (ℕ → Bool) → List Literal → Bool
clause_value v [] = false
clause_value v (l ∷ clause) = literal_value v l || clause_value v clause

-- all clauses are TRUE
abbrev pub AreTrue : (ℕ → Bool) → List (Vec Literal) → Type 0
AreTrue v clauses = All (λ (c : Vec Literal). clause_value v c.items ≡ true) clauses

-- no values of the variables make all clauses TRUE
abbrev pub IsUnsatisfiable : List (Vec Literal) → Type 0
IsUnsatisfiable clauses = (v : ℕ → Bool) → AreTrue v clauses → ⊥

-- wherever all clauses are TRUE, this one is
abbrev pub FollowsFrom : List (Vec Literal) → List Literal → Type 0
FollowsFrom clauses clause = (v : ℕ → Bool) → AreTrue v clauses → clause_value v clause ≡ true

-- the clause of each step follows from the formula
abbrev pub AreFollowing : List (Vec Literal) → List Step → Type 0
AreFollowing formula steps = All (λ (s : Step). FollowsFrom formula s.clause.items) steps

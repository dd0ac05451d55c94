-- What a clause tells where something is known of variables.
use Rattle.std.specs.Prelude.{◌≡◌, ◌⊎◌, ⊤, List, Bool, All, not, Option, Some}
use Rattle.clauses.specs.declared.literal.Literal.{Literal}
use Rattle.clauses.specs.declared.reading.Reading.{Reading}
use Rattle.clauses.specs.declared.reading.Reading.TheVariants.{Conflict, Unit, Open}
use Rattle.clauses.specs.Steps.Assignments.{value_in}

-- the literal is known to be FALSE
abbrev pub IsFalse : List (Option Bool) → Literal → Type 0
IsFalse values l = value_in values l.variable ≡ Some l.is_negated

-- the literal is known to be TRUE
abbrev pub IsKnownTrue : List (Option Bool) → Literal → Type 0
IsKnownTrue values l = value_in values l.variable ≡ Some (not l.is_negated)

-- each literal is known to be FALSE, but this one
abbrev pub AreFalseBut : List (Option Bool) → List Literal → Literal → Type 0
AreFalseBut values clause unit = All (λ (l : Literal). IsFalse values l ⊎ (l ≡ unit)) clause

-- each literal is known to be FALSE; each but one; or nothing is said
abbrev pub IsReading : List (Option Bool) → List Literal → Reading → Type 0
IsReading values clause Conflict = All (IsFalse values) clause
IsReading values clause (Unit l) = AreFalseBut values clause l
IsReading values clause Open = ⊤

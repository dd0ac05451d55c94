-- What is known of variables.
use Rattle.std.specs.Prelude.{◌≡◌, ℕ, ◌==◌, ◌≤◌, List, Bool, All, Option, Some, None, map, if◌then◌else◌, slice_index_or}
use Rattle.clauses.specs.declared.assignment.Assigned.{Assigned}

-- what an assignment of this round tells, if it is of it
abbrev pub known_in : ℕ → Assigned → Option Bool
known_in round a = if a.round == round then Some a.value else None

-- what is known in this round
abbrev pub known : ℕ → List Assigned → List (Option Bool)
known round assigned = map (known_in round) assigned

-- none is of a later round
abbrev pub AreOfRounds : ℕ → List Assigned → Type 0
AreOfRounds round assigned = All (λ (a : Assigned). a.round ≤ round) assigned

-- nothing is known
abbrev pub AreUnknown : List (Option Bool) → Type 0
AreUnknown values = All (λ (o : Option Bool). o ≡ None) values

-- what is known of a variable; of one beyond the last nothing
abbrev pub value_in : List (Option Bool) → ℕ → Option Bool
value_in values variable = slice_index_or values variable None

-- the variables have the values that are known
abbrev pub AreAgreed : (ℕ → Bool) → List (Option Bool) → Type 0
AreAgreed v values = (k : ℕ) (b : Bool) → value_in values k ≡ Some b → v k ≡ b

-- To whom an evaluation is addressed, and what its maker had heard.
use Rattle.std.specs.Prelude.{ℕ, max, ◌==◌, Bool, false, List, [], ◌∷◌, Option, Some, None, map, slice_get, if◌then◌else◌}
use Rattle.std.specs.List.{enumerate_from}
use Rattle.evaluation.specs.Meaning.{Evaluated}

-- it is this number
abbrev pub is_number : ℕ → Option ℕ → Bool
is_number n None = false
is_number n (Some m) = m == n

-- These numbers, of which a maker had heard, address an incarnation of resource n: the one of which it had heard.
abbrev pub addresses : List ℕ → ℕ → ℕ → Bool
addresses heard n incarnation = is_number incarnation (slice_get heard n)

-- An evaluation is addressed to an incarnation of resource n: to the one of which its maker had heard.
abbrev pub is_addressed : Evaluated → ℕ → ℕ → Bool
is_addressed x n incarnation = addresses x.heard n incarnation

-- the greatest of a first number and of these
abbrev pub greatest : ℕ → List ℕ → ℕ
greatest first [] = first
greatest first (i ∷ more) = max i (greatest first more)

-- What resource n has heard, one number for each resource: of itself its incarnation, and of each other one the
-- greatest of its first incarnation and of those told of it.
abbrev pub heard_numbers : List ℕ → ℕ → ℕ → (ℕ → List ℕ) → List ℕ
heard_numbers first n incarnation told =
    map (λ e. if e.0 == n then incarnation else greatest e.1 (told e.0)) (enumerate_from 0 first)

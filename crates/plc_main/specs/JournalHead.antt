-- How a journal begins.
use Rattle.std.specs.Prelude.{ℕ, ◌==◌, ◌&&◌, ◌||◌, Bool, true, List, [], ◌∷◌, codes, if◌then◌else◌}

-- a text begins with these letters, or its first line is a beginning of them
abbrev pub goes_as : List ℕ → List ℕ → Bool
goes_as [] text = true
goes_as (l ∷ letters) [] = true
goes_as (l ∷ letters) (c ∷ text) = c == 10 || (c == l && goes_as letters text)

-- as a journal begins: behind empty lines with START, or with what is left of one that was torn
abbrev pub begins_as_journal : List ℕ → Bool
begins_as_journal [] = true
begins_as_journal (c ∷ text) = if c == 10 then begins_as_journal text else goes_as (codes "START ") (c ∷ text)

-- Rows that are emptied.
use Rattle.std.specs.Prelude.{ℕ, ◌==◌, ◌||◌, ◌++◌, Bool, if◌then◌else◌, List, [], codes, drop, map, take}
use Rattle.std.specs.List.{join_by, repeat}
use Rattle.slips.specs.Rows.{sign_at}

-- a `|` or `+`
abbrev pub is_rail : ℕ → Bool
is_rail c = c == 124 || c == 43

-- a rail alone in a column
abbrev pub bare_rail : ℕ → List ℕ
bare_rail column = repeat column (codes " ") ++ codes "|"

-- what is left of a row that is emptied: a rail alone where it has one in this column, and else nothing
abbrev pub emptied : ℕ → List ℕ → List ℕ → List ℕ
emptied column bare row = if is_rail (sign_at row column) then bare else []

-- the rows, of which so many are emptied, behind so many that stay
abbrev pub rows_left : ℕ → ℕ → ℕ → List ℕ → List (List ℕ) → List (List ℕ)
rows_left first count column bare rows =
    take first rows ++ map (emptied column bare) (take count (drop first rows)) ++ drop count (drop first rows)

-- their text
abbrev pub without_rows : ℕ → ℕ → ℕ → List (List ℕ) → List ℕ
without_rows first count column rows =
    join_by (λ (row : List ℕ). row) (codes "\n") (rows_left first count column (bare_rail column) rows)

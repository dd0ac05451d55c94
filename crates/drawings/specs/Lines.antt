-- The lines of a text in which a drawing stands.
use Rattle.std.specs.Prelude.{ℕ, ◌+◌, ◌-◌, min}

-- the line of a row, counted from 1, in a drawing that begins on this line; where no number is as great as that line's,
-- the greatest
abbrev pub line_of_row : ℕ → ℕ → ℕ
line_of_row first_line row = min (first_line + (row - 1)) 18446744073709551615

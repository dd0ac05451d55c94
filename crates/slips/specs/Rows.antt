-- Rows of a text, and the signs in them, both counted from 0.
use Rattle.std.specs.Prelude.{ℕ, ◌==◌, List, slice_get, unwrap_or}
use Rattle.std.specs.List.{slice_split}

-- the sign of a row in a column; a blank behind its end
abbrev pub sign_at : List ℕ → ℕ → ℕ
sign_at row column = unwrap_or (slice_get row column) 32

-- the rows of a text
abbrev pub rows_of : List ℕ → List (List ℕ)
rows_of text = slice_split (λ c. c == 10) text

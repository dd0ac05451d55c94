-- Comments: rows that begin with `(*` and end with `*)`.
use Rattle.std.specs.Prelude.{ℕ, ◌==◌, ◌&&◌, Bool, false, if◌then◌else◌, List, [], ◌∷◌, codes, length, map}
use Rattle.std.specs.List.{join_by, slice_split}
use Rattle.std.specs.Str.{trim}

-- `*)` begins with this character
abbrev pub is_end : ℕ → List ℕ → Bool
is_end c [] = false
is_end c (d ∷ more) = c == 42 && d == 41

-- what stands behind `(*` ends with the first `*)`
abbrev pub closes : List ℕ → Bool
closes [] = false
closes (c ∷ more) = if is_end c more then length more == 1 else closes more

-- it begins with `(*`, and ends with the first `*)` behind that
abbrev pub is_enclosed : List ℕ → Bool
is_enclosed [] = false
is_enclosed (c ∷ []) = false
is_enclosed (c ∷ d ∷ more) = c == 40 && d == 42 && closes more

-- a row is a comment, blanks at both ends aside
abbrev pub is_comment : List ℕ → Bool
is_comment row = is_enclosed (trim row)

-- an empty row in the place of a comment
abbrev pub emptied : List ℕ → List ℕ
emptied row = if is_comment row then [] else row

-- the text with its comments emptied
abbrev pub without_comments : List ℕ → List ℕ
without_comments text = join_by (λ (row : List ℕ). row) (codes "\n") (map emptied (slice_split (λ c. c == 10) text))

-- The lines of a text.
use Rattle.std.specs.Prelude.{ℕ, ◌-◌, List, ◌==◌, if◌then◌else◌, length, slice_index, take}
use Rattle.std.specs.List.{slice_split}

-- xs without its last element, where that is x
abbrev pub without_last : ℕ → List ℕ → List ℕ
without_last x xs = if slice_index xs (length xs - 1) == x then take (length xs - 1) xs else xs

-- the lines between line feeds; a line feed at the end begins no further line
abbrev pub lines_of : List ℕ → List (List ℕ)
lines_of text = slice_split (λ b. b == 10) (without_last 10 text)

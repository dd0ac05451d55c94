-- Lists that are written item by item.
use Rattle.std.specs.Prelude.{ℕ, ◌==◌, if◌then◌else◌, List, [], codes}

-- what stands before item k of a list
abbrev pub gap_before : ℕ → List ℕ
gap_before k = if k == 0 then [] else codes " "

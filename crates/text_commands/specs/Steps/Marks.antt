-- Marks for places at which something is stored.
use Rattle.std.specs.Prelude.{ℕ, List, [], ◌∷◌, Bool, true, false, if◌then◌else◌, fold, slice_index_or, slice_set}

-- the marks with those at some places more
abbrev pub with_marks : List ℕ → List Bool → List Bool
with_marks places marks = fold (λ ms place. slice_set ms place true) marks places

-- the place, unless it is marked
abbrev pub place_unmarked : List Bool → ℕ → List ℕ
place_unmarked marks place = if slice_index_or marks place false then [] else place ∷ []

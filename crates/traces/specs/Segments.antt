-- Where a variable keeps its value.
use Rattle.std.specs.Prelude.{ℕ, ◌+◌, ◌++◌, if◌then◌else◌, List, [], ◌∷◌}
use Rattle.std_blocks.specs.declared.value.Value.{Value}
use Rattle.traces.specs.declared.segments.Segment.{Segment}
use Rattle.traces.specs.Tracks.{is_same}

-- from one moment up to another one a variable has this value
abbrev pub segment : ℕ → ℕ → Value → Segment
segment since until value = record { from = since; to = until; value = value }

-- what ends before the moment k, where the value is another one there
abbrev pub ended : ℕ → ℕ → Value → Value → List Segment
ended since k value next = if is_same value next then [] else segment since k value ∷ []

-- since when it then has that value
abbrev pub start : ℕ → ℕ → Value → Value → ℕ
start since k value next = if is_same value next then since else k

-- a variable has a value since one moment, and from the moment k on these; where it keeps which
abbrev pub segments_from : ℕ → Value → ℕ → List Value → List Segment
segments_from since value k [] = segment since k value ∷ []
segments_from since value k (next ∷ values) =
    ended since k value next ++ segments_from (start since k value next) next (k + 1) values

-- the longest stretches of moments in which a variable keeps its value, one after the other
abbrev pub segments_of : List Value → List Segment
segments_of [] = []
segments_of (value ∷ values) = segments_from 0 value 1 values

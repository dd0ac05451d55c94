use Rattle.std.proofs.Common.{ℕ, List, length}
use Rattle.plant_text.specs.Steps.Gaps.{IsBehindGap}
use Rattle.plant_text.proofs.gaps.behind_gap.Given as goal

abbrev pub invariant-pieces : goal.invariant-pieces
invariant-pieces l = (r : List ℕ) → IsBehindGap l.rest r → IsBehindGap l.text r

abbrev pub decreases-pieces : goal.decreases-pieces
decreases-pieces l = length l.rest

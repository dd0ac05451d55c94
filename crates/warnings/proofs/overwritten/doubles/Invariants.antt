use Rattle.std.proofs.Common.{◌≡◌, ◌≤◌, map, drop, length}
use Rattle.std.specs.Prelude.{reverse}
use Rattle.warnings.specs.Found.{doubles}
use Rattle.warnings.specs.Steps.Stored.{HasStored}
use Rattle.warnings.proofs.overwritten.doubles.Given as goal

abbrev pub invariant-loop-k : goal.invariant-loop-k
invariant-loop-k l =
    (l.k ≤ length l.elements)
    × HasStored (map (λ e. e.now) (drop l.k l.elements)) l.stored
    × (l.found.items ≡ reverse (doubles l.first_line (map (λ e. e.now) (drop l.k l.elements))))

abbrev pub decreases-loop-k : goal.decreases-loop-k
decreases-loop-k l = l.k

use Rattle.std.proofs.Common.{◌≡◌, ◌≤◌, ◌-◌, length, drop}
use Rattle.ladder_rows.specs.Boxes.{without_leading}
use Rattle.ladder_rows.proofs.characters.grid.without_leading.Given as goal

abbrev pub invariant-loop-from : goal.invariant-loop-from
invariant-loop-from l = (l.from ≤ length l.text) × (without_leading (drop l.from l.text) ≡ without_leading l.text)

abbrev pub decreases-loop-from : goal.decreases-loop-from
decreases-loop-from l = length l.text - l.from

use Rattle.std.proofs.Common.{◌≡◌, ◌≤◌, take, length}
use Rattle.ladder_rows.specs.Rows.{trimmed}
use Rattle.ladder_rows.proofs.characters.rows.trimmed.Given as goal

abbrev pub invariant-loop-end : goal.invariant-loop-end
invariant-loop-end l = (l.end ≤ length l.line) × (trimmed (take l.end l.line) ≡ trimmed l.line)

abbrev pub decreases-loop-end : goal.decreases-loop-end
decreases-loop-end l = l.end

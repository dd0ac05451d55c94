use Rattle.std.proofs.Common.{ℕ, ◌<◌, IsFalse}
use Rattle.ladder_rows.specs.Faults.{no_left_rail}
use Rattle.ladder_rows.proofs.characters.grid.Grid.first_off_rail.Given as goal

abbrev pub invariant-loop-row : goal.invariant-loop-row
invariant-loop-row l = (r : ℕ) → r < l.row → IsFalse (no_left_rail l.self r)

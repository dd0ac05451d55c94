use Rattle.std.proofs.Common.{ℕ, ◌<◌, IsFalse}
use Rattle.ladder_rows.specs.Faults.{not_ascii}
use Rattle.ladder_rows.proofs.characters.rows.first_not_ascii.Given as goal

abbrev pub invariant-loop-row : goal.invariant-loop-row
invariant-loop-row l = (r c : ℕ) → r < l.row → IsFalse (not_ascii l.rows r c)

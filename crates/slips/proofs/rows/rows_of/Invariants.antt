use Rattle.std.proofs.Common.{◌≡◌, map}
use Rattle.slips.proofs.rows.rows_of.Given as goal

abbrev pub invariant-loop-row : goal.invariant-loop-row
invariant-loop-row l = map (λ row. row.now) l.rows.items ≡ map (λ row. row.now) l.yielded

use Rattle.std.proofs.Common.{◌≡◌, replicate, None}
use Rattle.exchange_core.proofs.known.empty_row.Given as goal

abbrev pub invariant-loop-task : goal.invariant-loop-task
invariant-loop-task l = l.row.items ≡ replicate l._task None

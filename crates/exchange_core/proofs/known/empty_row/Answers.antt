use Rattle.std.proofs.Common.{sym, None}
use Rattle.exchange_core.proofs.Tables.{replicate-one_more}
use Rattle.exchange_core.proofs.known.empty_row.Goals as goal

pub loop-task-preserved : goal.loop-task-preserved
loop-task-preserved c = rw (c.in_ok-push.ensures.items, c.loop-task.invariant) (sym (replicate-one_more c.loop-task._task None))

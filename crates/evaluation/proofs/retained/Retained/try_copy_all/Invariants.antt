use Rattle.std.proofs.Common.{◌≡◌, take}
use Rattle.evaluation.proofs.retained.Retained.try_copy_all.Given as goal

abbrev pub invariant-loop-of_task : goal.invariant-loop-of_task
invariant-loop-of_task l = l.copies.items ≡ take l.of_task-index l.retained

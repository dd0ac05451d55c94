use Rattle.std.proofs.Common.{ℕ, ◌<◌, slice_index_or}
use Rattle.cycle.specs.Cycle.{NoneDueBefore}
use Rattle.cycle.specs.declared.cycled_task.CycledTask.{CycledTask}
use Rattle.cycle.proofs.cycle.first_moment.Given as goal

abbrev pub invariant-loop-task : goal.invariant-loop-task
invariant-loop-task l = (k : ℕ) → k < l.task-index → (d : CycledTask) → NoneDueBefore l.first (slice_index_or l.tasks k d)

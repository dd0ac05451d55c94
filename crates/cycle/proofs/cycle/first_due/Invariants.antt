use Rattle.std.proofs.Common.{◌≡◌, ◌<◌, ℕ, false, get_or}
use Rattle.cycle.specs.Cycle.{is_due}
use Rattle.cycle.specs.declared.cycled_task.CycledTask.{CycledTask}
use Rattle.cycle.proofs.cycle.first_due.Given as goal

abbrev pub invariant-loop-place : goal.invariant-loop-place
invariant-loop-place l = (k : ℕ) → k < l.place → (d : CycledTask) → is_due l.reading (get_or l.tasks k d) ≡ false

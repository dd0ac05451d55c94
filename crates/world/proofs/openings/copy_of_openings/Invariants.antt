use Rattle.std.proofs.Common.{◌≡◌, take}
use Rattle.task_codes.specs.CodeValue.{lists_of}
use Rattle.world.proofs.openings.copy_of_openings.Given as goal

abbrev pub invariant-loop-tasks : goal.invariant-loop-tasks
invariant-loop-tasks l = lists_of l.copy.items ≡ lists_of (take l.tasks-index l.opening)

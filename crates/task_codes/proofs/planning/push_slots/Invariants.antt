use Rattle.std.proofs.Common.{◌≡◌, ◌++◌, ◌<◌, All}
use Rattle.task_codes.specs.Steps.Slots.{slots_within}
use Rattle.task_codes.proofs.planning.push_slots.Given as goal

abbrev pub invariant-loop-task : goal.invariant-loop-task
invariant-loop-task l = record {
  so_far : l.slots.items ≡ l.fn.slots.items ++ slots_within l.resource l.tasks l.task;
  positive : All (λ s. 0 < s.interval) l.fn.slots.items → All (λ s. 0 < s.interval) l.slots.items;
}

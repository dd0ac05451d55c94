use Rattle.std.proofs.Common.{◌≡◌, ◌<◌, All}
use Rattle.task_codes.specs.Plan.{timings_in}
use Rattle.task_codes.specs.Steps.Slots.{slots_before}
use Rattle.task_codes.proofs.planning.slots.Given as goal

abbrev pub invariant-loop-resource : goal.invariant-loop-resource
invariant-loop-resource l = record {
  so_far : l.slots.items ≡ slots_before (timings_in l.tasks) l.resource;
  positive : All (λ s. 0 < s.interval) l.slots.items;
}

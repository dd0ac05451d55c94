use Rattle.std.proofs.Common.{◌≡◌, map, take}
use Rattle.task_codes.specs.Plan.{AllTimed}
use Rattle.plant.specs.Plan.{timing_of}
use Rattle.plant.proofs.planning.timings_of.Given as goal

abbrev pub invariant-loop-task : goal.invariant-loop-task
invariant-loop-task l = record {
  so_far : l.timings.items ≡ map timing_of (take l.task-index l.tasks);
  positive : AllTimed l.timings.items;
}

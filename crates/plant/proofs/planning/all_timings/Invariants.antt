use Rattle.std.proofs.Common.{◌≡◌, All, take}
use Rattle.task_codes.specs.Plan.{AllTimed, timings_in}
use Rattle.plant.specs.Plan.{timings_of}
use Rattle.plant.proofs.planning.all_timings.Given as goal

abbrev pub invariant-loop-resource : goal.invariant-loop-resource
invariant-loop-resource l = record {
  so_far : timings_in l.timings.items ≡ take l.resource (timings_of l.plant);
  positive : All AllTimed (timings_in l.timings.items);
}

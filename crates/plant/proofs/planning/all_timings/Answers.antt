use Rattle.std.proofs.Common.{◌<◌, List, length, map, ap, ◌∙◌, arith}
use Rattle.std.specs.Global.{Vec}
use Rattle.task_codes.specs.declared.timing.Timing.{Timing}
use Rattle.plant.specs.PlantValue.{TaskValue}
use Rattle.plant.specs.Plan.{timing_of}
use Rattle.plant.proofs.DueTasks.{timings_more, timed_more}
use Rattle.plant.proofs.planning.all_timings.Goals as goal

pub loop-resource-preserved : goal.loop-resource-preserved
loop-resource-preserved c =
    let plant = c.args.plant.now in
    let vs = c.loop-resource.timings.items in
    let v : Vec Timing = c.in_ok-timings_of.field-0 in
    let within : c.loop-resource.resource < length plant.resources = omega arith in
    let made = c.in_ok-timings_of.ensures.ok ∙ ap (λ (ts : List TaskValue). map timing_of ts) c.tasks.ensures in
    record {
      so_far = rw c.in_ok-push.ensures.items (timings_more plant c.loop-resource.resource vs v within made c.loop-resource.invariant.so_far);
      positive = rw c.in_ok-push.ensures.items (timed_more vs v c.loop-resource.invariant.positive c.in_ok-timings_of.ensures.positive);
    }

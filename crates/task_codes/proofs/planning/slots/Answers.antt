use Rattle.std.proofs.Common.{◌++◌, length, ap, sym, ◌∙◌}
use Rattle.std.specs.Global.{Vec}
use Rattle.task_codes.specs.declared.timing.Timing.{Timing}
use Rattle.task_codes.specs.Steps.Slots.{slots_within}
use Rattle.task_codes.proofs.Moments.{timed_at, slots_with_given}
use Rattle.task_codes.proofs.planning.slots.Goals as goal

pub push_slots-requires : goal.push_slots-requires
push_slots-requires c = rw c.deref.ensures.value (timed_at c.args.tasks.now c.loop-resource.resource c.index-tasks-resource.result c.loop-resource-test.true c.index-tasks-resource.is c.requires)

pub loop-resource-preserved : goal.loop-resource-preserved
loop-resource-preserved c =
    let v : Vec Timing = c.index-tasks-resource.result in
    let one = slots_with_given c.args.tasks.now c.loop-resource.resource v c.loop-resource-test.true c.index-tasks-resource.is in
    record {
      so_far = rw c.deref.ensures.value at c.in_ok-push_slots.ensures.ok ∙ ap (λ xs. xs ++ slots_within c.loop-resource.resource v.items (length v.items)) c.loop-resource.invariant.so_far ∙ sym one;
      positive = c.in_ok-push_slots.ensures.positive c.loop-resource.invariant.positive;
    }

use Rattle.std.proofs.Common.{subst}
use Rattle.std.specs.List.Sorted.{IsPermutation}
use Rattle.task_codes.specs.Plan.{timings_in}
use Rattle.task_codes.specs.Steps.Slots.{dues_until}
use Rattle.task_codes.proofs.Moments.{positive_kept}
use Rattle.task_codes.proofs.Planned.{plan_is, plan_short, plan_long}
use Rattle.task_codes.proofs.planning.plan.Goals as goal

pub dues_until-requires : goal.dues_until-requires
dues_until-requires c =
    rw c.deref.ensures.value (positive_kept c.in_ok-order.order.items c.sort_unstable.new.self.items c.sort_unstable.ensures.permutation c.in_ok-order.ensures.positive)

pub returns-clause-ok : goal.returns-clause-ok
returns-clause-ok c =
    let resources = timings_in c.args.tasks.now in
    let order = c.sort_unstable.new.self.items in
    let moved = subst (λ xs. IsPermutation xs order) c.in_ok-order.ensures.ok c.sort_unstable.ensures.permutation in
    let is = plan_is resources c.args.until order moved c.sort_unstable.ensures.sorted in
    plan_short resources c.args.until (dues_until order c.args.until) is c.dues_until.result (rw c.deref.ensures.value at c.dues_until.ensures.ok)

pub returns-clause-too_long : goal.returns-clause-too_long
returns-clause-too_long c =
    let resources = timings_in c.args.tasks.now in
    let order = c.sort_unstable.new.self.items in
    let moved = subst (λ xs. IsPermutation xs order) c.in_ok-order.ensures.ok c.sort_unstable.ensures.permutation in
    let is = plan_is resources c.args.until order moved c.sort_unstable.ensures.sorted in
    plan_long resources c.args.until (dues_until order c.args.until) is c.dues_until.result (rw c.deref.ensures.value at c.dues_until.ensures.too_long)

use Rattle.std.proofs.Common.{◌≡◌, ◌<◌, ◌++◌, length, ap, sym, ◌∙◌, arith, rules}
use Rattle.task_codes.specs.Steps.Slots.{dues_at, dues_until}
use Rattle.task_codes.specs.declared.plan_fault.PlanFault.TheVariants.{TooLong}
use Rattle.task_codes.proofs.Moments.{dues_go_on, dues_with, dues_grow}
use Rattle.lists.proofs.Results.{kept_fault}
use Rattle.task_codes.proofs.planning.dues_until.Goals as goal

pub moments-init : goal.moments-init
moments-init c = record {
  begun = c.first_after-moment.ensures.above;
  end = c.first_after-moment.ensures.end;
  last = search rules;
  few = omega (arith, ap length c.new-dues.ensures.items);
  so_far = c.new-dues.ensures.items ∙ sym (dues_go_on c.args.order.now 0 c.first_after-moment.result c.first_after-moment.ensures.none c.first_after-moment.ensures.above);
}

pub returns-in_err-push_dues-clause-too_long : goal.returns-in_err-push_dues-clause-too_long
returns-in_err-push_dues-clause-too_long c =
    let order = c.args.order.now in
    let one : c.moments.dues.items ++ dues_at order c.moments.moment ≡ dues_until order c.moments.moment = ap (λ ds. ds ++ dues_at order c.moments.moment) c.moments.invariant.so_far ∙ sym (dues_with order c.moments.moment c.moments.invariant.begun) in
    kept_fault c.in_err-push_dues.field-0.0 (λ fault. fault ≡ TooLong → 100000 < length (dues_until order c.args.until)) c.from_residual.result c.from_residual.ensures.1
    (λ e. let long = c.in_err-push_dues.ensures.too_long e in omega (arith, ap length one, long, dues_grow order c.moments.moment c.args.until (omega arith)))

pub moments-preserved : goal.moments-preserved
moments-preserved c =
    let order = c.args.order.now in
    let next = c.first_after-moment-in-moments in
    let one : c.push_dues.new.dues.items ≡ dues_until order c.moments.moment = c.in_ok-push_dues.ensures.ok ∙ ap (λ ds. ds ++ dues_at order c.moments.moment) c.moments.invariant.so_far ∙ sym (dues_with order c.moments.moment c.moments.invariant.begun) in
    record {
      begun = omega arith;
      end = next.ensures.end;
      last = c.moments.invariant.last;
      few = c.in_ok-push_dues.ensures.few;
      so_far = one ∙ sym (dues_go_on order c.moments.moment next.result next.ensures.none next.ensures.above);
    }

use Rattle.std.proofs.Common.{◌∙◌, ◌+◌, ◌-◌, ◌<◌, refl, ap, subst, rules}
use Rattle.audit.proofs.GoingOn.{restarted_goes}
use Rattle.audit.proofs.Leavings.{left_restarted}
use Rattle.audit.proofs.doing.restart.Goals as goal

pub returns-in-Ok-clause-goes : goal.returns-in-Ok-clause-goes
returns-in-Ok-clause-goes c = restarted_goes c.args.book.now c.put_in.new.self c.raise.new.self c.args.station c.in-Ok.station _ c.args.incarnation c.resource-resource.result c.in-Some-skipped_between.skipped c.in_ok-put_in-in-Ok.ensures c.raise.ensures c.resource-resource.ensures
    (subst (λ k. k < c.args.incarnation) c.incarnation.ensures c.in_default.ensures.0)
    (c.in-Some-skipped_between.ensures.0 ∙ ap (λ k. c.args.incarnation - (k + 1)) c.incarnation-2.ensures) c.in-Ok.ensures.ok c.requires.going

pub returns-in-Ok-clause-risen : goal.returns-in-Ok-clause-risen
returns-in-Ok-clause-risen c = (c.in-Ok.station, refl, (search rules, c.in-Ok.ensures.ok))

pub returns-in-Ok-clause-left : goal.returns-in-Ok-clause-left
returns-in-Ok-clause-left c = left_restarted c.args.station c.in-Ok.station _ c.args.incarnation _ c.in-Ok.ensures.ok c.requires.left

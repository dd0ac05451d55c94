use Rattle.std.proofs.Common.{◌<◌, ◌⊎◌, inr, length, ◌≡◌, arith, subst, true, ◌∙◌}
use Rattle.world.specs.declared.event.Event.TheVariants.{Deliver}
use Rattle.world.specs.History.{made_count, history_of, is_lawful}
use Rattle.world.specs.World.{WorldValue}
use Rattle.world.proofs.Worlds.Moves.{world-deliver_at, deliver-lawful, unmade_at}
use Rattle.world.proofs.Worlds.Answered.{delivered_at}
use Rattle.world.proofs.Worlds.Events.{done_same}
use Rattle.world.proofs.plant_world.World.deliver.Goals as goal

pub invariant_of-self-2 : goal.invariant_of-self-2
invariant_of-self-2 c =
    rw (c.in-Ok-push.ensures.items, c.reserve.ensures.items)
    (world-deliver_at _ c.self.inside.events.items c.self.inside.log.items c.self.inside.cores.items c.args.message c.args.resource c.index_mut-core.result.now c.accept-accepted.new.self c.in-Ok.frame c.accept-accepted.result c.self.invariant (omega (arith, c.self.inside.cores.ok.0)) c.index_mut-core.ensures.value (omega arith) (omega (arith, c.self.inside.log.ok.0)) (rw c.in-Ok.ensures c.index.ensures) c.accept-accepted.ensures.answer)

pub returns-clause-done : goal.returns-clause-done
returns-clause-done c =
    done_same c.args.self.now _ c.self.inside.events.items _ c.self.inside.log.items (Deliver c.args.message c.args.resource) c.self.view_is
    (deliver-lawful _ c.self.inside.events.items c.self.inside.log.items c.self.inside.cores.items c.args.message c.args.resource c.self.invariant (omega (arith, c.self.inside.cores.ok.0)) (omega arith) (omega (arith, c.self.inside.log.ok.0)))
    (c.in-Ok-push.ensures.items ∙ rw c.reserve.ensures.items)

pub returns-then-message-len-clause-cause : goal.returns-then-message-len-clause-cause
returns-then-message-len-clause-cause c =
    subst (λ (w : WorldValue). (c.args.resource < length w.setting.plant.resources) × ((c.args.message ≡ 0) ⊎ (made_count (history_of w.setting w.events) < c.args.message))) c.self.view_is
    (omega (arith, c.self.inside.cores.ok.0, c.self.invariant.sized), inr (unmade_at _ c.self.inside.events.items c.self.inside.log.items c.self.inside.cores.items c.args.message c.self.invariant (omega (arith, c.self.inside.log.ok.0))))

pub returns-clause-answer : goal.returns-clause-answer
returns-clause-answer c =
    delivered_at c.args.self.now _ c.self.inside.events.items c.self.inside.log.items c.self.inside.cores.items c.args.message c.args.resource c.index_mut-core.result.now c.accept-accepted.new.self c.in-Ok.frame c.accept-accepted.result c.self.view_is c.self.invariant (omega (arith, c.self.inside.cores.ok.0)) c.index_mut-core.ensures.value (omega arith) (omega (arith, c.self.inside.log.ok.0)) (rw c.in-Ok.ensures c.index.ensures) c.accept-accepted.ensures.answer

pub returns-in_default-clause-cause : goal.returns-in_default-clause-cause
returns-in_default-clause-cause c =
    subst (λ (w : WorldValue). is_lawful w.setting (history_of w.setting w.events) (Deliver c.args.message c.args.resource) ≡ true) c.self.view_is
    (deliver-lawful _ c.self.inside.events.items c.self.inside.log.items c.self.inside.cores.items c.args.message c.args.resource c.self.invariant (omega (arith, c.self.inside.cores.ok.0)) (omega arith) (omega (arith, c.self.inside.log.ok.0)))

pub returns-then-is_err-clause-cause : goal.returns-then-is_err-clause-cause
returns-then-is_err-clause-cause c =
    subst (λ (w : WorldValue). is_lawful w.setting (history_of w.setting w.events) (Deliver c.args.message c.args.resource) ≡ true) c.self.view_is
    (deliver-lawful _ c.self.inside.events.items c.self.inside.log.items c.self.inside.cores.items c.args.message c.args.resource c.self.invariant (omega (arith, c.self.inside.cores.ok.0)) (omega arith) (omega (arith, c.self.inside.log.ok.0)))

use Rattle.std.proofs.Common.{◌<◌, ◌≤◌, arith, length, ◌≡◌, true, ◌∙◌, subst}
use Rattle.world.specs.declared.event.Event.TheVariants.{Restart}
use Rattle.world.specs.History.{history_of, incarnation_of, is_lawful}
use Rattle.world.specs.World.{WorldValue}
use Rattle.world.proofs.Worlds.Events.{world-restart_at, restart-lawful_at, restarted_at, incarnation_at, done_same}
use Rattle.world.proofs.plant_world.World.restart.Goals as goal

pub returns-then-last-clause-cause : goal.returns-then-last-clause-cause
returns-then-last-clause-cause c =
    subst (λ (w : WorldValue). (c.args.resource < length w.setting.plant.resources) × (4294967295 ≤ incarnation_of w.setting c.args.resource (history_of w.setting w.events))) c.self.view_is
    (incarnation_at _ c.self.inside.events.items c.self.inside.log.items c.self.inside.cores.items c.self.invariant c.args.resource c.incarnation-last.result c.index-present.result.now (omega (arith, c.self.inside.cores.ok.0)) c.index-present.ensures c.incarnation-last.ensures (omega arith))

pub invariant_of-self-2 : goal.invariant_of-self-2
invariant_of-self-2 c =
    rw (c.in-Ok-push.ensures.items, c.reserve.ensures.items)
    (world-restart_at _ c.self.inside.events.items c.self.inside.log.items c.self.inside.cores.items c.self.invariant c.args.resource c.incarnation-last.result c.index-present.result.now c.in-Ok.core (omega (arith, c.self.inside.cores.ok.0)) c.index-present.ensures c.incarnation-last.ensures (omega arith) c.in-Ok.ensures)

pub returns-clause-done : goal.returns-clause-done
returns-clause-done c =
    done_same c.args.self.now _ c.self.inside.events.items _ c.self.inside.log.items (Restart c.args.resource) c.self.view_is
    (restart-lawful_at _ c.self.inside.events.items c.self.inside.log.items c.self.inside.cores.items c.self.invariant c.args.resource c.incarnation-last.result c.index-present.result.now (omega (arith, c.self.inside.cores.ok.0)) c.index-present.ensures c.incarnation-last.ensures (omega arith))
    (c.in-Ok-push.ensures.items ∙ rw c.reserve.ensures.items)

pub returns-clause-answer : goal.returns-clause-answer
returns-clause-answer c =
    rw (c.in-Ok-push.ensures.items, c.reserve.ensures.items)
    (restarted_at _ c.self.inside.events.items c.self.inside.log.items c.self.inside.cores.items c.self.invariant c.args.resource c.incarnation-last.result c.index-present.result.now (omega (arith, c.self.inside.cores.ok.0)) c.index-present.ensures c.incarnation-last.ensures (omega arith))

pub returns-in_default-clause-cause : goal.returns-in_default-clause-cause
returns-in_default-clause-cause c =
    subst (λ (w : WorldValue). is_lawful w.setting (history_of w.setting w.events) (Restart c.args.resource) ≡ true) c.self.view_is
    (restart-lawful_at _ c.self.inside.events.items c.self.inside.log.items c.self.inside.cores.items c.self.invariant c.args.resource c.incarnation-last.result c.index-present.result.now (omega (arith, c.self.inside.cores.ok.0)) c.index-present.ensures c.incarnation-last.ensures (omega arith))

pub returns-then-is_err-clause-cause : goal.returns-then-is_err-clause-cause
returns-then-is_err-clause-cause c =
    subst (λ (w : WorldValue). is_lawful w.setting (history_of w.setting w.events) (Restart c.args.resource) ≡ true) c.self.view_is
    (restart-lawful_at _ c.self.inside.events.items c.self.inside.log.items c.self.inside.cores.items c.self.invariant c.args.resource c.incarnation-last.result c.index-present.result.now (omega (arith, c.self.inside.cores.ok.0)) c.index-present.ensures c.incarnation-last.ensures (omega arith))

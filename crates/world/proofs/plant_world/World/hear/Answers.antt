-- A Hear of an incarnation that was had is lawful, and the core follows the history.
use Rattle.std.proofs.Common.{◌≡◌, ◌⊎◌, ◌<◌, true, ap, subst, ◌∙◌, arith, length}
use Rattle.std.specs.Prelude.{slice_index}
use Rattle.world.specs.declared.event.Event.TheVariants.{Hear}
use Rattle.world.specs.History.{history_of, incarnation_of, is_lawful}
use Rattle.world.specs.Step.{is_newer}
use Rattle.world.specs.World.{WorldValue}
use Rattle.world.proofs.Worlds.Moves.{world-hear}
use Rattle.world.proofs.Worlds.Events.{never_at, hear-lawful_at, newer_at, done_same}
use Rattle.world.proofs.plant_world.World.hear.Goals as goal

pub returns-then-incarnation-clause-cause : goal.returns-then-incarnation-clause-cause
returns-then-incarnation-clause-cause c =
    subst (λ (w : WorldValue). (c.args.resource < length w.setting.plant.resources) × (c.args.of < length w.setting.plant.resources) × ((c.args.incarnation < slice_index w.setting.first c.args.of) ⊎ (incarnation_of w.setting c.args.of (history_of w.setting w.events) < c.args.incarnation))) c.self.view_is
    (never_at _ c.self.inside.events.items c.self.inside.log.items c.self.inside.cores.items c.self.invariant c.args.resource c.args.of c.args.incarnation 0 c.incarnation.result c.index-2.result.now (omega (arith, c.self.inside.cores.ok.0)) (omega (arith, c.self.inside.cores.ok.0)) c.index-2.ensures c.incarnation.ensures c.if-incarnation.true)

pub returns-then-is_err-clause-cause : goal.returns-then-is_err-clause-cause
returns-then-is_err-clause-cause c =
    subst (λ (w : WorldValue). is_lawful w.setting (history_of w.setting w.events) (Hear c.args.resource c.args.of c.args.incarnation) ≡ true) c.self.view_is
    (hear-lawful_at _ c.self.inside.events.items c.self.inside.log.items c.self.inside.cores.items c.self.invariant c.args.resource c.args.of c.args.incarnation c.index.result.now c.incarnation.result c.index-2.result.now (omega (arith, c.self.inside.cores.ok.0)) (omega (arith, c.self.inside.cores.ok.0)) c.index-2.ensures c.incarnation.ensures c.index.ensures c.if-incarnation-index.false c.if-incarnation.false)

pub invariant_of-self-2 : goal.invariant_of-self-2
invariant_of-self-2 c =
    rw (c.in-Ok.ensures.items, c.reserve.ensures.items)
    (world-hear _ c.self.inside.events.items c.self.inside.log.items c.self.inside.cores.items c.args.resource c.args.of c.args.incarnation _ c.hear-newer.new.self c.hear-newer.result c.self.invariant (omega (arith, c.self.inside.cores.ok.0)) (omega (arith, c.self.inside.cores.ok.0)) c.index_mut-core.ensures.value c.hear-newer.ensures
    (hear-lawful_at _ c.self.inside.events.items c.self.inside.log.items c.self.inside.cores.items c.self.invariant c.args.resource c.args.of c.args.incarnation c.index.result.now c.incarnation.result c.index-2.result.now (omega (arith, c.self.inside.cores.ok.0)) (omega (arith, c.self.inside.cores.ok.0)) c.index-2.ensures c.incarnation.ensures c.index.ensures c.if-incarnation-index.false c.if-incarnation.false))

pub returns-clause-done : goal.returns-clause-done
returns-clause-done c =
    done_same c.args.self.now _ c.self.inside.events.items _ c.self.inside.log.items (Hear c.args.resource c.args.of c.args.incarnation) c.self.view_is
    (hear-lawful_at _ c.self.inside.events.items c.self.inside.log.items c.self.inside.cores.items c.self.invariant c.args.resource c.args.of c.args.incarnation c.index.result.now c.incarnation.result c.index-2.result.now (omega (arith, c.self.inside.cores.ok.0)) (omega (arith, c.self.inside.cores.ok.0)) c.index-2.ensures c.incarnation.ensures c.index.ensures c.if-incarnation-index.false c.if-incarnation.false)
    (c.in-Ok.ensures.items ∙ rw c.reserve.ensures.items)

pub returns-clause-answer : goal.returns-clause-answer
returns-clause-answer c =
    c.hear-newer.ensures.answer_is
    ∙ newer_at _ c.self.inside.events.items c.self.inside.log.items c.self.inside.cores.items c.self.invariant c.args.resource c.args.of c.args.incarnation 0 c.incarnation.result c.index-2.result.now (omega (arith, c.self.inside.cores.ok.0)) (omega (arith, c.self.inside.cores.ok.0)) c.index-2.ensures c.incarnation.ensures
    c.index_mut-core.result.now c.index_mut-core.ensures.value c.if-incarnation.false
    ∙ ap (λ (w : WorldValue). is_newer w c.args.resource c.args.of c.args.incarnation) c.self.view_is

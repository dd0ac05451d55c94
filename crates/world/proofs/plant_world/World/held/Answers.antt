use Rattle.std.proofs.Common.{◌≡◌, ap, sym, subst, ◌∙◌, refl, length, Some, slice_get}
use Rattle.std.proofs.lemmas.Bool.{ltb-true}
use Rattle.std.proofs.lemmas.Option.{slice_get_read}
use Rattle.task_codes.specs.CodeValue.{lists_of}
use Rattle.exchange_core.specs.CoreValue.{held_of}
use Rattle.world.specs.World.{WorldValue, held_at}
use Rattle.world.proofs.Worlds.Holding.{held-node, entry-given}
use Rattle.world.proofs.plant_world.World.held.Goals as goal

pub returns-in-Some-clause-latest : goal.returns-in-Some-clause-latest
returns-in-Some-clause-latest c =
    let core = c.in-Some.core.now in
    let w : WorldValue = record { setting = record { plant = c.self.inside.plant.value; first = c.self.inside.first.items; opening = lists_of c.self.inside.opening.items; max_number = c.self.inside.max_number }; events = c.self.inside.events.items; log = c.self.inside.log.items } in
    let found : slice_get c.self.inside.cores.items c.args.resource ≡ Some core =
    ap (λ l. slice_get l c.args.resource) (sym c.deref.ensures.value)
    ∙ slice_get_read c.deref.result.now (length c.deref.result.now) c.args.resource core refl (ltb-true _ _ (sym c.in-Some.ensures.lookup.0)) c.in-Some.ensures.lookup.1 in
    c.held.ensures
    ∙ subst (λ (v : WorldValue). held_of core c.args.task ≡ held_at v c.args.resource c.args.task) c.self.view_is
    (held-node w c.args.resource core c.args.task (c.self.invariant.nodes c.args.resource core found))

pub returns-in-Some-clause-entry : goal.returns-in-Some-clause-entry
returns-in-Some-clause-entry c = entry-given (λ b. b.now) c.held.result c.args.self.now c.args.resource c.args.task (returns-in-Some-clause-latest c)

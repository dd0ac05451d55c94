use Rattle.std.proofs.Common.{◌≡◌, ◌∙◌, sym, ap, subst, Some}
use Rattle.task_codes.specs.declared.task_ref.TaskRef.{TaskRef}
use Rattle.evaluation.specs.declared.name.Name.{Name}
use Rattle.evaluation.specs.Messages.{MessageValue}
use Rattle.exchange_core.specs.declared.last.Last.{Last}
use Rattle.exchange_core.specs.HeldMessages.{message_in, known, with_known}
use Rattle.exchange_core.specs.MessageCoreValue.{MessageCoreValue, IsUsable, IsKnownOf}
use Rattle.exchange_core.proofs.Keeping.{core-with, known-set, usable-known, place-known}
use Rattle.exchange_core.proofs.message_core.MessageCore.hold.Goals as goal

pub set-requires : goal.set-requires
set-requires c =
    let core : MessageCoreValue = record { plant = c.self.inside.plant.value; resource = c.self.inside.resource; first = c.self.inside.first.items; incarnation = c.self.inside.incarnation; heard = c.self.inside.heard.items; max_number = c.self.inside.max_number; kept = c.self.inside.kept.items; table = c.self.inside.table } in
    let usable : IsUsable core (message_in c.args.last) = subst (λ (w : MessageCoreValue). IsUsable w (message_in c.args.last)) (sym c.self.view_is) c.requires in
    let task : c.name.result.task ≡ (message_in c.args.last).name.task = ap (λ (n : Name). n.task) c.name.ensures ∙ ap (λ (m : MessageValue). m.name.task) c.message.ensures in
    place-known core c.name.result.task c.args.last c.self.invariant
    (subst (λ (p : TaskRef). IsKnownOf core p c.args.last) (sym task) (usable-known core c.args.last c.self.invariant usable))

pub invariant_of-self : goal.invariant_of-self
invariant_of-self c =
    let core : MessageCoreValue = record { plant = c.self.inside.plant.value; resource = c.self.inside.resource; first = c.self.inside.first.items; incarnation = c.self.inside.incarnation; heard = c.self.inside.heard.items; max_number = c.self.inside.max_number; kept = c.self.inside.kept.items; table = c.self.inside.table } in
    let usable : IsUsable core (message_in c.args.last) = subst (λ (w : MessageCoreValue). IsUsable w (message_in c.args.last)) (sym c.self.view_is) c.requires in
    let task : c.name.result.task ≡ (message_in c.args.last).name.task = ap (λ (n : Name). n.task) c.name.ensures ∙ ap (λ (m : MessageValue). m.name.task) c.message.ensures in
    rw c.set.ensures
    (core-with core c.name.result.task c.args.last c.self.invariant
    (subst (λ (p : TaskRef). IsKnownOf core p c.args.last) (sym task) (usable-known core c.args.last c.self.invariant usable)))

pub returns-clause-known : goal.returns-clause-known
returns-clause-known c =
    let core : MessageCoreValue = record { plant = c.self.inside.plant.value; resource = c.self.inside.resource; first = c.self.inside.first.items; incarnation = c.self.inside.incarnation; heard = c.self.inside.heard.items; max_number = c.self.inside.max_number; kept = c.self.inside.kept.items; table = c.self.inside.table } in
    let last : Last = c.args.last in
    let usable : IsUsable core (message_in last) = subst (λ (w : MessageCoreValue). IsUsable w (message_in last)) (sym c.self.view_is) c.requires in
    let task : c.name.result.task ≡ (message_in last).name.task = ap (λ (n : Name). n.task) c.name.ensures ∙ ap (λ (m : MessageValue). m.name.task) c.message.ensures in
    let may : IsKnownOf core (message_in last).name.task last = usable-known core last c.self.invariant usable in
    record {
      another = usable.another;
      known_is =
          ap (λ t. known t (message_in last).name.task) c.set.ensures
          ∙ ap (λ p. known (with_known core.table p (Some last)) (message_in last).name.task) task
          ∙ known-set core (message_in last).name.task last c.self.invariant may;
    }

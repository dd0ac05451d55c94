use Rattle.std.proofs.Common.{if◌then◌else◌, ap, ◌∙◌}
use Rattle.gates.specs.Signals.{signal_value}
use Rattle.scan_gates.specs.Encoded.{slots_at}
use Rattle.ladder_systems.specs.Steps.States.{none}
use Rattle.ladder_systems.proofs.restarting.restart_where.Goals as goal

pub choose_slots-requires : goal.choose_slots-requires
choose_slots-requires c =
    let ds = c.requires.0 in
    rw (c.deref-2.ensures.value, c.deref-3.ensures.value)
    (c.declared_are_like.ensures none none ds c.in_ok-fresh.fresh.items c.args.slots.now.items
    ((rw c.deref.ensures.value at c.in_ok-fresh.ensures.of) ds c.requires.2 c.requires.1) c.requires.2)

pub returns-clause-of : goal.returns-clause-of
returns-clause-of c = λ ds first slots.
    c.kinds_are_shapes.ensures none none ds c.in_ok-fresh.fresh.items c.in_ok-slots.field-0.items
    (rw c.deref-2.ensures.value at c.in_ok-slots.ensures.like) ((rw c.deref.ensures.value at c.in_ok-fresh.ensures.of) ds slots first)

pub returns-clause-state : goal.returns-clause-state
returns-clause-state c = λ v agrees.
    let cleared = (rw c.deref-4.ensures.value at c.in_ok-memories.ensures.cleared) v agrees in
    let chosen = (rw (c.deref-2.ensures.value, c.deref-3.ensures.value) at c.in_ok-slots.ensures.slots) v cleared.0 in
    let fresh = (rw c.deref.ensures.value at c.in_ok-fresh.ensures.slots) v in
    (chosen.0, (chosen.1 ∙ ap (λ l. if signal_value v c.args.restarts then l else slots_at v c.args.slots.now.items) fresh, cleared.1))

use Rattle.std.proofs.Common.{◌++◌, length, ap, ◌∙◌, []}
use Rattle.scan_gates.specs.States.{state_signals}
use Rattle.ladder_systems.proofs.Made.{first_of, state_made}
use Rattle.ladder_systems.proofs.state_signals.state_signals.Goals as goal

pub returns-clause-first : goal.returns-clause-first
returns-clause-first c = λ v agrees.
    let before = (c.in_ok-slots.ensures.built v (c.in_ok-memories.ensures.quiet v agrees).0).0 in
    (before, (rw c.declarations.ensures.list at c.in_ok-first.ensures) v before)

pub returns-clause-of : goal.returns-clause-of
returns-clause-of c =
    first_of c.args.gates.now c.args.ladder.now.declarations c.in_ok-first.first.items c.requires.gates (rw c.declarations.ensures.list at c.in_ok-first.ensures)

pub returns-clause-state : goal.returns-clause-state
returns-clause-state c =
    state_made c.states_are_signals.ensures.states c.kinds_are_shapes.ensures c.declared_are_like.ensures c.args.ladder.now c.args.gates.now c.memory_signals.new.gates
    c.in_ok-first.first.items c.in_ok-slots.slots.items c.in_ok-memories.memories.items c.with_bits.new.bits.items c.memory_signals.new.bits.items c.in_ok-at_first.at_first.items
    c.requires.gates (rw c.declarations.ensures.list at c.in_ok-first.ensures)
    (rw c.deref.ensures.value at c.in_ok-slots.ensures.like)
    (c.in_ok-slots.ensures.bits ∙ ap (λ l. l ++ state_signals c.in_ok-slots.slots.items []) c.new-bits.ensures.items)
    (c.in_ok-memories.ensures.long ∙ ap length c.requires.marks)
    (λ v agrees. ((rw c.requires.marks at c.in_ok-memories.ensures.quiet) v agrees).1)
    (rw c.requires.marks at c.in_ok-memories.ensures.bits)
    (rw (c.deref-2.ensures.value, c.requires.marks) at c.in_ok-at_first.ensures)

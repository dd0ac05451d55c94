use Rattle.std.proofs.Common.{[], ◌++◌, ap, refl, sym, ◌∙◌}
use Rattle.std.proofs.lemmas.List.{take_all}
use Rattle.scan_gates.specs.States.{state_signals}
use Rattle.ladder_systems.specs.Remembering.{marked}
use Rattle.ladder_systems.proofs.Pushing.{listed_more, state_signals-append}
use Rattle.ladder_systems.proofs.state_bits.bits_of.Goals as goal

pub loop-slot-preserved : goal.loop-slot-preserved
loop-slot-preserved c =
    listed_more c.args.slots.now c.loop-slot.bits.items c.push_signals.new.signals.items c.loop-slot.slot-index _ _ c.loop-slot-test.true refl c.loop-slot.invariant (rw c.slot-item.is at c.in_ok-push_signals.ensures)

pub returns : goal.returns
returns c =
    let memories = marked c.args.marks.now c.args.memories.now in
    c.in_ok-push_marked.ensures
    ∙ ap (λ l. l ++ memories) (c.loop-slot.invariant ∙ ap (λ l. state_signals l []) (take_all c.loop-slot.slot-index c.args.slots.now c.loop-slot-test.false))
    ∙ sym (state_signals-append c.args.slots.now memories)

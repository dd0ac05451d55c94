use Rattle.std.proofs.Common.{◌≡◌, Option, None, Some, refl, sym, ◌∙◌}
use Rattle.scan_steps.proofs.Seating.{block_at_seat, block_at_none, seating_block}
use Rattle.scan_steps.proofs.slots.Slots.put_block.Goals as goal

none_of : {X : Type 0} (o : Option X) → ((x : X) → o ≡ Some x → ⊥) → o ≡ None
none_of None never = refl
none_of (Some x) never = absurd (never x refl)

pub invariant_of-self : goal.invariant_of-self
invariant_of-self c = rw c.put_block.ensures (seating_block c.self.inside.seats.value.items c.self.inside.lists c.in-Some.seat c.args.block.now c.self.invariant)

pub returns-in-Some : goal.returns-in-Some
returns-in-Some c = rw (← c.self.view_is, c.put_block.ensures)
    (block_at_seat c.self.inside.seats.value.items c.self.inside.lists c.args.place c.in-Some.seat c.args.block.now c.self.invariant (sym c.seat_at.ensures ∙ c.in-Some.is))

pub returns-in_default : goal.returns-in_default
returns-in_default c = rw (← c.self.view_is)
    (block_at_none c.self.inside.seats.value.items c.self.inside.lists c.args.place c.args.block.now (sym c.seat_at.ensures ∙ none_of c.seat_at.result c.in_default.not-Some))

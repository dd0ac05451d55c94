use Rattle.std.proofs.Common.{Some, sym, ap, ◌∙◌}
use Rattle.scan_steps.proofs.Seating.{slot_found, no_slot}
use Rattle.scan_steps.proofs.slots.Slots.slot.Goals as goal

pub returns-in-Some : goal.returns-in-Some
returns-in-Some c = rw (← c.self.view_is) (ap Some c.slot.ensures ∙ sym (slot_found c.self.inside.seats.value.items c.self.inside.lists c.args.place c.in-Some.seat (sym c.seat_at.ensures ∙ c.in-Some.is)))

pub returns-in-None : goal.returns-in-None
returns-in-None c = rw (← c.self.view_is) (sym (no_slot c.self.inside.seats.value.items c.self.inside.lists c.args.place (sym c.seat_at.ensures ∙ c.in-None.is)))

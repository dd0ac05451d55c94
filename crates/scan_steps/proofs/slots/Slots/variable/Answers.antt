use Rattle.std.proofs.Common.{sym, ◌∙◌}
use Rattle.scan_steps.proofs.Seating.{variable_found, no_variable}
use Rattle.scan_steps.proofs.slots.Slots.variable.Goals as goal

pub returns-in-Some : goal.returns-in-Some
returns-in-Some c = rw (← c.self.view_is) (c.variable.ensures ∙ variable_found c.self.inside.seats.value.items c.self.inside.lists c.args.place c.in-Some.seat (sym c.seat_at.ensures ∙ c.in-Some.is))

pub returns-in-None : goal.returns-in-None
returns-in-None c = rw (← c.self.view_is) (no_variable c.self.inside.seats.value.items c.self.inside.lists c.args.place (sym c.seat_at.ensures ∙ c.in-None.is))

use Rattle.std.proofs.Common.{sym, ◌∙◌}
use Rattle.scan_steps.proofs.Seating.{block_read, no_block}
use Rattle.scan_steps.proofs.slots.Slots.block.Goals as goal

pub returns-in-Some : goal.returns-in-Some
returns-in-Some c = rw (← c.self.view_is) (c.block.ensures ∙ block_read c.self.inside.seats.value.items c.self.inside.lists c.args.place c.in-Some.seat c.self.invariant (sym c.seat_at.ensures ∙ c.in-Some.is))

pub returns-in-None : goal.returns-in-None
returns-in-None c = rw (← c.self.view_is) (no_block c.self.inside.seats.value.items c.self.inside.lists c.args.place (sym c.seat_at.ensures ∙ c.in-None.is))

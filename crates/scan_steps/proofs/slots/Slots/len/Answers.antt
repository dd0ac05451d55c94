use Rattle.std.proofs.Common.{sym, ◌∙◌}
use Rattle.scan_steps.proofs.Seating.{slots_length}
use Rattle.scan_steps.proofs.slots.Slots.len.Goals as goal

pub returns : goal.returns
returns c = rw (← c.self.view_is) (c.count.ensures ∙ sym (slots_length 0 c.self.inside.seats.value.items c.self.inside.lists))

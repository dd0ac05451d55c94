use Rattle.std.proofs.Common.{◌∙◌}
use Rattle.scan_steps.proofs.Seating.{on_there}
use Rattle.scan_steps.proofs.slots.Slots.is_on.Goals as goal

pub returns : goal.returns
returns c = rw (← c.self.view_is) (c.is_on.ensures ∙ on_there c.self.inside.seats.value.items c.self.inside.lists c.args.place c.self.invariant)

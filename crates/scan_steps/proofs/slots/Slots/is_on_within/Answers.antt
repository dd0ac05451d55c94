use Rattle.std.proofs.Common.{◌∙◌, arith}
use Rattle.scan_steps.proofs.Seating.{on_there, slots_length}
use Rattle.scan_steps.proofs.slots.Slots.is_on_within.Goals as goal

pub bit-requires : goal.bit-requires
bit-requires c =
    let seats = c.self.inside.seats.value.items in
    let lists = c.self.inside.lists in
    let within = rw (← c.self.view_is) at c.requires in
    let many = slots_length 0 seats lists in
    let long = c.self.invariant.long in
    omega arith

pub returns : goal.returns
returns c = rw (← c.self.view_is) (c.bit.ensures ∙ on_there c.self.inside.seats.value.items c.self.inside.lists c.args.place c.self.invariant)

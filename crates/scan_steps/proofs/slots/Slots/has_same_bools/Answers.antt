use Rattle.scan_steps.proofs.SameBools.{bits_same, many_same, bools_same}
use Rattle.scan_steps.proofs.slots.Slots.has_same_bools.Goals as goal

pub returns-clause-many : goal.returns-clause-many
returns-clause-many c = λ on. rw (← c.self.view_is, ← c.other.view_is)
    (many_same c.self.inside.seats.value.items c.other.inside.seats.value.items c.self.inside.lists c.other.inside.lists c.self.invariant c.other.invariant (c.has_same_bits.ensures.0 on))

pub returns-clause-bools : goal.returns-clause-bools
returns-clause-bools c = λ on k. rw (← c.self.view_is, ← c.other.view_is)
    (bools_same c.self.inside.seats.value.items c.other.inside.seats.value.items c.self.inside.lists c.other.inside.lists c.self.invariant c.other.invariant (c.has_same_bits.ensures.0 on) k)

pub returns-clause-same : goal.returns-clause-same
returns-clause-same c = λ same. c.has_same_bits.ensures.1
    (bits_same c.self.inside.seats.value.items c.other.inside.seats.value.items c.self.inside.lists c.other.inside.lists c.self.invariant c.other.invariant (rw (← c.self.view_is, ← c.other.view_is) at same))

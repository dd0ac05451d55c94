use Rattle.scan_steps.proofs.SameBools.{bools_alone}
use Rattle.scan_steps.proofs.slots.Slots.has_bools_alone.Goals as goal

pub returns : goal.returns
returns c = λ on.
    let none = c.has_bits_alone.ensures on in
    rw (← c.self.view_is) (bools_alone c.self.inside.seats.value.items c.self.inside.lists c.self.invariant none.0 none.1 none.2)

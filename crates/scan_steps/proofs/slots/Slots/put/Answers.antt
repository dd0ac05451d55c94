use Rattle.std.proofs.Common.{sym, ◌∙◌}
use Rattle.scan_steps.proofs.Seating.{value_at_seat, value_at_none, kind_there, no_kind_there, seating_put}
use Rattle.scan_steps.proofs.slots.Slots.put.Goals as goal

pub invariant_of-self : goal.invariant_of-self
invariant_of-self c = rw c.put.ensures.lists (seating_put c.self.inside.seats.value.items c.self.inside.lists c.args.place c.in-Some.seat c.args.value c.self.invariant (sym c.seat_at.ensures ∙ c.in-Some.is))

pub returns-in-Some-clause-put : goal.returns-in-Some-clause-put
returns-in-Some-clause-put c = rw (← c.self.view_is, c.put.ensures.lists)
    (value_at_seat c.self.inside.seats.value.items c.self.inside.lists c.args.place c.in-Some.seat c.args.value c.self.invariant (sym c.seat_at.ensures ∙ c.in-Some.is))

pub returns-in-Some-clause-answer : goal.returns-in-Some-clause-answer
returns-in-Some-clause-answer c =
    let seats = c.self.inside.seats.value.items in
    let kinds = kind_there seats c.self.inside.lists c.args.place c.in-Some.seat c.args.value (sym c.seat_at.ensures ∙ c.in-Some.is) in
    rw (← c.self.view_is) (λ on. kinds.0 (sym c.put.ensures.answer ∙ on), λ at. c.put.ensures.answer ∙ kinds.1 at)

pub returns-in-None-clause-put : goal.returns-in-None-clause-put
returns-in-None-clause-put c = rw (← c.self.view_is) (value_at_none c.self.inside.seats.value.items c.self.inside.lists c.args.place c.args.value (sym c.seat_at.ensures ∙ c.in-None.is))

pub returns-in-None-clause-answer : goal.returns-in-None-clause-answer
returns-in-None-clause-answer c = rw (← c.self.view_is)
    (λ on. absurd cc, λ at. absurd (no_kind_there c.self.inside.seats.value.items c.self.inside.lists c.args.place c.args.value (sym c.seat_at.ensures ∙ c.in-None.is) at))

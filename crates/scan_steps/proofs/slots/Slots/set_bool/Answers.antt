use Rattle.std.proofs.Common.{◌≡◌, Some, slice_get, arith}
use Rattle.std.proofs.lemmas.Option.{slice_get_within}
use Rattle.std_blocks.specs.declared.value.Value.TheVariants as value
use Rattle.scan_steps.specs.declared.seat.Seat.TheVariants as seat
use Rattle.scan_steps.proofs.Seating.{value_at_seat, seating_put}
use Rattle.scan_steps.proofs.BoolSeats.{bool_seat}
use Rattle.scan_steps.proofs.slots.Slots.set_bool.Goals as goal

pub set_bit-requires : goal.set_bit-requires
set_bit-requires c =
    let seats = c.self.inside.seats.value.items in
    let at : slice_get seats c.args.place ≡ Some seat.Bool = bool_seat seats c.self.inside.lists c.args.place c.args.on (rw (← c.self.view_is) at c.requires) in
    let within = slice_get_within seats c.args.place seat.Bool at in
    let long = c.self.invariant.long in
    omega arith

pub invariant_of-self : goal.invariant_of-self
invariant_of-self c =
    let seats = c.self.inside.seats.value.items in
    let at : slice_get seats c.args.place ≡ Some seat.Bool = bool_seat seats c.self.inside.lists c.args.place c.args.on (rw (← c.self.view_is) at c.requires) in
    rw c.set_bit.ensures (seating_put seats c.self.inside.lists c.args.place seat.Bool (value.Bool c.args.on) c.self.invariant at)

pub returns : goal.returns
returns c =
    let seats = c.self.inside.seats.value.items in
    let at : slice_get seats c.args.place ≡ Some seat.Bool = bool_seat seats c.self.inside.lists c.args.place c.args.on (rw (← c.self.view_is) at c.requires) in
    rw (← c.self.view_is, c.set_bit.ensures) (value_at_seat seats c.self.inside.lists c.args.place seat.Bool (value.Bool c.args.on) c.self.invariant at)

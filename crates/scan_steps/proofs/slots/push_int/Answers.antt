use Rattle.scan_steps.proofs.SeatsGrowing.{int_more}
use Rattle.scan_steps.proofs.slots.push_int.Goals as goal

pub returns-clause-seating : goal.returns-clause-seating
returns-clause-seating c = rw (c.in_ok-push.ensures.items, c.in_ok-number.ensures.number, c.in_ok-number.ensures.pushed, c.in_ok-push_place.ensures) (int_more c.args.seats.now.items c.args.lists.now c.requires).seating

pub returns-clause-slots : goal.returns-clause-slots
returns-clause-slots c = rw (c.in_ok-push.ensures.items, c.in_ok-number.ensures.number, c.in_ok-number.ensures.pushed, c.in_ok-push_place.ensures) (int_more c.args.seats.now.items c.args.lists.now c.requires).slots

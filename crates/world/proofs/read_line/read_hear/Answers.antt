-- The second word names no resource.
use Rattle.world.proofs.ScheduleReading.{hear_at}
use Rattle.world.proofs.read_line.read_hear.Goals as goal

pub returns-in_err-of : goal.returns-in_err-of
returns-in_err-of c = rw c.from_residual-in_err-of.ensures (λ h spelled. c.in_err-of.ensures h.1 (hear_at c.args.plant.now h.0 h.1 h.2 c.args.words.now spelled).1)

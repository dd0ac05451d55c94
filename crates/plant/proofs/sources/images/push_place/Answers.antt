use Rattle.std.proofs.Common.{refl}
use Rattle.plant.proofs.sources.images.push_place.Goals as goal

pub returns-in_ok-push_output-in-Some : goal.returns-in_ok-push_output-in-Some
returns-in_ok-push_output-in-Some c = rw c.in-Some.ensures (c.in_ok-push_output-in-Some.ensures (record { name = c.in-Some.field-0-0.now; declared = c.in-Some.declared }) refl)

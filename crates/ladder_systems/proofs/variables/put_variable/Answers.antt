use Rattle.std.proofs.lemmas.List.{map-set}
use Rattle.scan_gates.specs.Encoded.{slot_at}
use Rattle.scan_gates.specs.declared.encoded.EncodedSlot.TheVariants.{Variable}
use Rattle.ladder_systems.proofs.Shapes.{of_set}
use Rattle.ladder_systems.proofs.variables.put_variable.Goals as goal

pub returns-then-place-slots-clause-slots : goal.returns-then-place-slots-clause-slots
returns-then-place-slots-clause-slots c = λ v. map-set (slot_at v) c.args.slots.now c.args.place (Variable c.args.value)

pub returns-then-place-slots-clause-of : goal.returns-then-place-slots-clause-of
returns-then-place-slots-clause-of c = λ ds there of. of_set ds c.args.slots.now c.args.place c.args.value of there

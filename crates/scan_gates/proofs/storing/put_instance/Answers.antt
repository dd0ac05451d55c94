use Rattle.std.proofs.Common.{◌≡◌, Some, length, slice_get, refl, ap, ◌∙◌}
use Rattle.std.proofs.lemmas.Option.{slice_get_read}
use Rattle.scan_gates.specs.declared.encoded.EncodedSlot.TheVariants.{Block}
use Rattle.scan_gates.proofs.Slots.{block_put_there}
use Rattle.scan_gates.proofs.storing.put_instance.Goals as goal

pub returns-in-Some-Block : goal.returns-in-Some-Block
returns-in-Some-Block c = λ v.
    let slots = c.args.slots.now in
    let place = c.args.place in
    let here = c.in-Some-Block in
    let got = here.ensures.lookup in
    let at : slice_get slots place ≡ Some (Block here.field-0-0) = slice_get_read slots (length slots) place here.field-0.now refl got.3.0 got.1 ∙ ap Some here.field-0-is in
    block_put_there v slots place here.field-0-0 c.args.instance at

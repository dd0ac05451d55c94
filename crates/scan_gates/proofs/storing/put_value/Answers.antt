use Rattle.std.proofs.Common.{◌≡◌, Some, length, slice_get, refl, ap, ◌∙◌}
use Rattle.std.proofs.lemmas.Option.{slice_get_read}
use Rattle.scan_gates.specs.declared.encoded.EncodedSlot.TheVariants.{Variable}
use Rattle.scan_gates.proofs.Slots.{value_put_there}
use Rattle.scan_gates.proofs.storing.put_value.Goals as goal

pub returns-in-Some-Variable : goal.returns-in-Some-Variable
returns-in-Some-Variable c = λ v.
    let slots = c.args.slots.now in
    let place = c.args.place in
    let here = c.in-Some-Variable in
    let got = here.ensures.lookup in
    let at : slice_get slots place ≡ Some (Variable here.had) = slice_get_read slots (length slots) place here.field-0.now refl got.3.0 got.1 ∙ ap Some here.field-0-is in
    value_put_there v slots place here.had c.of_same_kind-kept.result c.args.value at (c.of_same_kind-kept.ensures v)

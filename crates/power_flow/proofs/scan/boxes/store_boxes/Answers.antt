use Rattle.std.proofs.Common.{◌+◌, ◌<◌, drop, length, get_or, Some, arith, sym, ap, ◌∙◌}
use Rattle.std.proofs.lemmas.Option.{slice_get-get_or}
use Rattle.power_flow.specs.Steps.BoxStores.{pin_stores, kinds_stored, boxes_stored}
use Rattle.power_flow.proofs.Boxes.KindsStored.{one_box_stored}
use Rattle.power_flow.proofs.scan.boxes.store_boxes.Goals as goal

pub loop-k-preserved : goal.loop-k-preserved
loop-k-preserved c =
    let boxes = c.args.boxes.now in
    let results = c.args.results.now in
    let k = c.loop-k.k in
    let here = c.index-boxes-k.result in
    let more = c.loop-k-test.true in
    let less : k < length results = omega arith in
    let v = get_or results k _ in
    let later = drop (k + 1) boxes in
    let rest = drop (k + 1) results in
    let made = c.store_pins.ensures ∙ ap (λ pins. kinds_stored c.put_block.new.self (pin_stores v.outputs pins)) c.deref.ensures.value
    ∙ ap (λ slots. kinds_stored slots (pin_stores v.outputs here.outputs.items)) c.put_block.ensures in
    ap (λ slots. boxes_stored later rest slots) made
    ∙ one_box_stored boxes results c.loop-k.slots k here v more less (slice_get-get_or boxes k here more ∙ ap Some (sym c.index-boxes-k.is)) (slice_get-get_or results k _ less)
    ∙ c.loop-k.invariant

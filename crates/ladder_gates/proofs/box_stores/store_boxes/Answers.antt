use Rattle.std.proofs.Common.{◌<◌, length, sym, ap, ◌∙◌, arith}
use Rattle.scan_gates.specs.Encoded.{instance_at, instances_at, slots_at}
use Rattle.power_flow.specs.Steps.BoxStores.{kinds_stored, pin_stores}
use Rattle.ladder_gates.proofs.Bits.{instances_long, instance_there}
use Rattle.ladder_gates.proofs.Storing.{boxes_more}
use Rattle.ladder_gates.proofs.box_stores.store_boxes.Goals as goal

pub loop-k-preserved : goal.loop-k-preserved
loop-k-preserved c = λ v agrees.
    let boxes = c.args.boxes.now in
    let results = c.args.results.now in
    let k = c.loop-k.k in
    let here = c.index-boxes-k.result in
    let more = c.loop-k-test.true in
    let many = c.requires in
    let less : k < length results = omega arith in
    let long = instances_long v results in
    let within : k < length (instances_at v results) = omega (arith, less, long) in
    let made = c.index-results-k.result in
    let i = instance_at v made in
    let stored = c.store_pins.ensures v agrees ∙ ap (λ pins. kinds_stored (slots_at v c.put_instance.new.slots) (pin_stores i.outputs pins)) c.deref.ensures.value
    ∙ ap (λ slots. kinds_stored slots (pin_stores i.outputs here.outputs.items)) (c.put_instance.ensures v) in
    boxes_more boxes (instances_at v results) k here i (slots_at v c.loop-k.slots) (slots_at v c.store_pins.new.slots) more within (sym c.index-boxes-k.is) (instance_there v results k made i less ∙ ap (instance_at v) (sym c.index-results-k.is)) stored
    ∙ c.loop-k.invariant v agrees

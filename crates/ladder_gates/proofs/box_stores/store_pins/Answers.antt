use Rattle.std.proofs.Common.{◌∙◌}
use Rattle.scan_gates.specs.Encoded.{instance_at, slots_at}
use Rattle.ladder_gates.proofs.Storing.{pins_more}
use Rattle.ladder_gates.proofs.box_stores.store_pins.Goals as goal

pub loop-pin-preserved : goal.loop-pin-preserved
loop-pin-preserved c = λ v agrees.
    pins_more c.args.pins.now (instance_at v c.args.made).outputs c.loop-pin.pin-index _ (slots_at v c.loop-pin.slots) (slots_at v c.store_pin.new.slots) c.loop-pin-test.true (c.store_pin.ensures v agrees)
    ∙ c.loop-pin.invariant v agrees

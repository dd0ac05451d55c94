use Rattle.gate_words.specs.Values.{time_at}
use Rattle.block_gates.specs.Blocks.{outputs_at, pins_at, state_at}
use Rattle.scan_gates.specs.Encoded.{bits_at, slots_at}
use Rattle.scan_gates.proofs.BoxesStepped.{box_stepped}
use Rattle.scan_gates.proofs.boxes.step_box.Goals as goal

pub returns : goal.returns
returns c = λ v agrees.
    let made = c.in_ok-made.ensures.stepped v agrees in (
      made.0,
      box_stepped c.args.bound.now (slots_at v c.args.slots.now) (time_at v c.args.dt.now) (bits_at v c.args.rows.now)
          (state_at v c.instance_of-instance.result) (state_at v c.in_ok-made.made) (pins_at v c.in_ok-pins.pins) (outputs_at v c.in_ok-made.made)
          (c.instance_of-instance.ensures v made.0) (c.in_ok-pins.ensures v made.0) made.1,
    )

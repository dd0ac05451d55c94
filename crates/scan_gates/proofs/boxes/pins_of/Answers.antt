use Rattle.std.proofs.Common.{ap, ◌∙◌}
use Rattle.gates.specs.Signals.{signal_value}
use Rattle.gate_words.specs.Values.{int_at, time_at}
use Rattle.scan_steps.specs.Values.{int_or_zero, time_or_zero}
use Rattle.scan_gates.specs.Encoded.{bits_at, slots_at}
use Rattle.scan_gates.proofs.BoxesStepped.{inputs_are}
use Rattle.scan_gates.proofs.boxes.pins_of.Goals as goal

pub returns : goal.returns
returns c = λ v agrees.
    inputs_are c.args.bound.now (slots_at v c.args.slots.now) (bits_at v c.args.rows.now) (signal_value v c.source_or_row_on-first.result)
    (signal_value v c.source_or_row_on-second.result) (signal_value v c.source_or_row_on-third.result)
    (signal_value v c.source_or_row_on-fourth.result) (int_at v c.int_of-int.result) (time_at v c.time_of-time.result)
    (c.source_or_row_on-first.ensures v agrees) (c.source_or_row_on-second.ensures v agrees) (c.source_or_row_on-third.ensures v agrees)
    (c.source_or_row_on-fourth.ensures v agrees) (c.int_of-int.ensures v agrees ∙ ap int_or_zero (c.in_ok-number.ensures v agrees))
    (c.time_of-time.ensures v agrees ∙ ap time_or_zero (c.in_ok-duration.ensures v agrees))

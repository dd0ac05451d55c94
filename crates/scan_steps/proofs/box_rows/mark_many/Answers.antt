use Rattle.std.proofs.Common.{◌∙◌}
use Rattle.std.proofs.lemmas.List.{take_all}
use Rattle.scan_steps.proofs.BoxesStepping.{mark_more}
use Rattle.scan_steps.proofs.box_rows.mark_many.Goals as goal

pub loop-pin-preserved : goal.loop-pin-preserved
loop-pin-preserved c = record {
  long = c.mark_output.ensures.long ∙ c.loop-pin.invariant.long;
  marked = mark_more c.args.pins.now c.args.outputs.now c.loop-pin.pin-index _ c.args.rows.now c.loop-pin.rows c.mark_output.new.rows c.loop-pin-test.true c.loop-pin.invariant.marked c.mark_output.ensures.marked;
}

pub returns-clause-marked : goal.returns-clause-marked
returns-clause-marked c = rw (take_all c.loop-pin.pin-index c.args.pins.now c.loop-pin-test.false) at c.loop-pin.invariant.marked

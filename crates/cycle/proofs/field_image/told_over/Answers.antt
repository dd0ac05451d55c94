use Rattle.cycle.proofs.Telling.{told_more}
use Rattle.cycle.proofs.field_image.told_over.Goals as goal

pub loop-input-preserved : goal.loop-input-preserved
loop-input-preserved c = told_more c.args.listed.now c.loop-input.after.items c.put.new.listed.items c.args.told.now c.loop-input.input-index _ c.loop-input-test.true c.loop-input.invariant c.in_ok-put.ensures

use Rattle.traces.proofs.Dumping.{declared_more}
use Rattle.traces.proofs.value_changes.push_declarations.Goals as goal

pub loop-number-preserved : goal.loop-number-preserved
loop-number-preserved c = declared_more c.args.tracks.now c.loop-number.number _ _ _ c.loop-number.invariant c.in_ok-push_declared.ensures

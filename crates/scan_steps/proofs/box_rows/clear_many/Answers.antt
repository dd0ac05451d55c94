use Rattle.std.proofs.Common.{length-set, false, ◌∙◌}
use Rattle.std.proofs.lemmas.List.{take_all}
use Rattle.scan_steps.proofs.BoxesStepping.{clear_more, clear_kept}
use Rattle.scan_steps.proofs.box_rows.clear_many.Goals as goal

pub loop-pin-preserved : goal.loop-pin-preserved
loop-pin-preserved c =
    let lt = c.loop-pin-test.true in
    let here = c.requires c.loop-pin.pin-index _ lt in
    record {
      long = length-set c.loop-pin.rows _ false ∙ c.loop-pin.invariant.long;
      cleared = clear_more c.args.pins.now c.loop-pin.pin-index _ c.loop-pin.rows lt (rw c.loop-pin.invariant.long here) c.loop-pin.invariant.cleared;
      kept = clear_kept c.args.pins.now c.loop-pin.pin-index _ c.loop-pin.rows c.args.rows.now lt c.loop-pin.invariant.kept;
    }

pub returns-clause-cleared : goal.returns-clause-cleared
returns-clause-cleared c = rw (take_all c.loop-pin.pin-index c.args.pins.now c.loop-pin-test.false) at c.loop-pin.invariant.cleared

pub returns-clause-kept : goal.returns-clause-kept
returns-clause-kept c = rw (take_all c.loop-pin.pin-index c.args.pins.now c.loop-pin-test.false) at c.loop-pin.invariant.kept

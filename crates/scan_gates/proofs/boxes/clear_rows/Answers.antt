use Rattle.std.proofs.Common.{length-set, ◌∙◌}
use Rattle.std.proofs.lemmas.List.{take_all}
use Rattle.scan_gates.proofs.Marking.{clear_more, clear_kept}
use Rattle.scan_gates.proofs.boxes.clear_rows.Goals as goal

pub loop-pin-preserved : goal.loop-pin-preserved
loop-pin-preserved c =
    let lt = c.loop-pin-test.true in
    let here = c.requires c.loop-pin.pin-index _ lt in
    record {
      long = length-set c.loop-pin.rows _ c.args.off ∙ c.loop-pin.invariant.long;
      cleared = λ v. clear_more v c.args.pins.now c.loop-pin.pin-index _ c.loop-pin.rows c.args.off lt (rw c.loop-pin.invariant.long here) (c.loop-pin.invariant.cleared v);
      kept = λ v. clear_kept v c.args.pins.now c.loop-pin.pin-index _ c.loop-pin.rows c.args.rows.now c.args.off lt (c.loop-pin.invariant.kept v);
    }

pub returns-clause-cleared : goal.returns-clause-cleared
returns-clause-cleared c = rw (take_all c.loop-pin.pin-index c.args.pins.now c.loop-pin-test.false) at c.loop-pin.invariant.cleared

pub returns-clause-kept : goal.returns-clause-kept
returns-clause-kept c = rw (take_all c.loop-pin.pin-index c.args.pins.now c.loop-pin-test.false) at c.loop-pin.invariant.kept

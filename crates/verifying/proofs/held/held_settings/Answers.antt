use Rattle.std.proofs.Common.{◌+◌, sym, subst, take}
use Rattle.verifying.specs.Steps.Marks.{HeldRead, HoldsOf}
use Rattle.verifying.proofs.Reading.{zip_more}
use Rattle.verifying.proofs.held.held_settings.Goals as goal

pub loop-number-preserved : goal.loop-number-preserved
loop-number-preserved c =
    subst (HeldRead c.args.marks.now (take (c.loop-number.number + 1) c.args.rows.now)) (sym c.in_ok-push-in-Ok.ensures.items)
    (zip_more (HoldsOf c.args.marks.now) c.args.rows.now c.loop-number.held.items c.loop-number.number c.index-rows-number.result c.in-Ok.setting c.loop-number-test.true c.loop-number.invariant
    (subst (λ row. HoldsOf c.args.marks.now row c.in-Ok.setting) c.index-rows-number.is c.in-Ok.ensures.ok))

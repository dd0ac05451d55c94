use Rattle.std.proofs.Common.{◌∙◌, arith}
use Rattle.std.proofs.lemmas.Iterator.Splits.{YieldsList-from_str_split}
use Rattle.std.proofs.lemmas.Iterator.Consumers.{YieldsList-end}
use Rattle.slips.proofs.rows.rows_of.Goals as goal

pub returns : goal.returns
returns c =
    let e = YieldsList-end (YieldsList-from_str_split 10 c.args.text.now (omega arith) (cc) (cc) (cc)) c.loop-row.yielded _ c.loop-row.yielded_by _ _ c.in-None.is c.next.ensures.steps in
    c.loop-row.invariant ∙ e.0

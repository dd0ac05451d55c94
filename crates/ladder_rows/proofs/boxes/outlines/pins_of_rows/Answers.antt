use Rattle.std.proofs.Common.{sym, arith, rules}
use Rattle.ladder_rows.proofs.Outlines.FaultyPins.{pins-none}
use Rattle.ladder_rows.proofs.boxes.outlines.pins_of_rows.Goals as goal

pub returns-in-None : goal.returns-in-None
returns-in-None c =
    let a = c.args in
    sym (pins-none a.grid.now a.left a.right a.from c.loop-i.i a.count (omega arith) (search rules))

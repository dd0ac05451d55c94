use Rattle.std.proofs.Common.{arith}
use Rattle.text_commands.proofs.SeriesValues.{given_least}
use Rattle.text_commands.proofs.items.ends_of.Goals as goal

pub returns-then-end-most : goal.returns-then-end-most
returns-then-end-most c =
    let least = given_least c.args.items.now c.loop-item.item-index c.item-item.result c.loop-item-test.true c.item-item.is in
    λ few. omega (arith, least, c.loop-item.invariant.end_is, c.len-end.ensures.long, c.if-end-most.true, few)

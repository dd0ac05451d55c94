use Rattle.std.proofs.Common.{◌≡◌, ◌<◌, length, max, arith, rules}
use Rattle.text_commands.proofs.Charting.{width_more}
use Rattle.text_commands.proofs.chart.name_width.Goals as goal

pub loop-place-preserved : goal.loop-place-preserved
loop-place-preserved c =
    let lt : c.loop-place.place < length c.args.declarations.now = let end = c.len-place-end.ensures in let before = c.loop-place-test.true in omega (arith, end, before) in
    let most : c.max-most.result ≡ max c.loop-place.most c.width_at.result = search rules in
    width_more c.args.declarations.now c.loop-place.place c.loop-place.most c.width_at.result c.max-most.result lt c.loop-place.invariant c.width_at.ensures most

use Rattle.std.proofs.Common.{◌<◌, length, arith}
use Rattle.network.proofs.Joined.Spreading.{classes_then, short_keeps, flat_more}
use Rattle.network.proofs.joining.labels.flatten.Goals as goal

pub loop-k-preserved : goal.loop-k-preserved
loop-k-preserved c =
    let labels = c.loop-k.labels in
    let k = c.loop-k.k in
    let i = c.loop-k.invariant in
    let within : k < length labels = (let a = c.loop-k.auto.labels in let b = c.loop-k-test.true in omega arith) in
    let keeps = short_keeps labels i.falling k within in
    record { falling = keeps.falling i.falling; classes = classes_then c.args.labels.now labels _ i.classes keeps; flat = flat_more labels k i.falling within i.flat }

use Rattle.traces.specs.Times.{time_of}
use Rattle.traces.proofs.Dumping.{moment_more, told_more}
use Rattle.traces.proofs.value_changes.change_dump.Goals as goal

pub loop-moment-preserved : goal.loop-moment-preserved
loop-moment-preserved c =
    let time = time_of c.args.times in
    let tracks = c.args.tracks.now in
    let k = c.loop-moment.moment in
    let told = c.loop-moment.told in
    let at = c.time_of.result in
    let before = c.loop-moment.invariant in
    record {
      text = moment_more time tracks k told at _ _ _ before.text before.told c.time_of.ensures c.in_ok-told.ensures.text;
      told = told_more time tracks k told at _ before.told c.time_of.ensures c.in_ok-told.ensures.told;
    }

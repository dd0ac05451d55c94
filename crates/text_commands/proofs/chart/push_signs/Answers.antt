use Rattle.text_commands.proofs.Charting.{signs_more, last_more}
use Rattle.text_commands.proofs.chart.push_signs.Goals as goal

pub loop-state-preserved : goal.loop-state-preserved
loop-state-preserved c = record {
  text = signs_more c.args.place c.args.states.now c.loop-state.state-index c.state-item.result c.get.result _ _ _ c.loop-state.before c.loop-state-test.true c.state-item.is c.get.ensures c.loop-state.invariant.text
      c.loop-state.invariant.last c.in_ok-before.ensures.text;
  last = last_more c.args.place c.args.states.now c.loop-state.state-index c.state-item.result c.get.result c.loop-state.before _ c.loop-state-test.true c.state-item.is c.get.ensures c.loop-state.invariant.last
      c.in_ok-before.ensures.last;
}

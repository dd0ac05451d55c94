use Rattle.text_commands.proofs.Drawing.{lines_all, lines_more, rest_more}
use Rattle.text_commands.proofs.live_drawing.live_lines.Goals as goal

pub returns-in_default : goal.returns-in_default
returns-in_default c = lines_all c.args.drawing.now c.args.ladder.now.networks c.loop-network.network c.args.shown.now c.loop-network.lines.items c.in_default.ensures c.loop-network.invariant.lines

pub loop-network-preserved : goal.loop-network-preserved
loop-network-preserved c = record {
  lines = lines_more c.args.drawing.now c.args.ladder.now.networks c.loop-network.network c.in-Some.ensures.0 c.args.shown.now _ _ _ _ c.in-Some.ensures.1 c.in-Some.ensures.2 c.loop-network.invariant.lines c.loop-network.invariant.rest
      c.put_elements.ensures;
  rest = rest_more c.args.ladder.now.networks c.loop-network.network c.in-Some.ensures.0 c.args.shown.now _ _ _ c.in-Some.ensures.1 c.in-Some.ensures.2 c.loop-network.invariant.rest c.behind-rest.ensures;
}

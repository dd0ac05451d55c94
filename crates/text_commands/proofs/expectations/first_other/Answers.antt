use Rattle.text_commands.proofs.Expecting.{agrees_all, agrees_more}
use Rattle.text_commands.proofs.expectations.first_other.Goals as goal

pub loop-row-preserved : goal.loop-row-preserved
loop-row-preserved c =
    agrees_more c.args.expected.now c.loop-row.row-index c.row-item.result c.args.k c.args.state.now.slots c.loop-row-test.true c.row-item.is c.loop-row.invariant c.in_default.ensures

pub returns : goal.returns
returns c = agrees_all c.args.expected.now c.loop-row.row-index c.args.k c.args.state.now.slots c.loop-row-test.false c.loop-row.invariant
